-- The numbers that a hub has given don't become fewer.
use Rattle.std.proofs.Common.{◌≡◌, ◌≤◌, ◌+◌, ℕ, List, Bool, true, false, sym, subst, arith}
use Rattle.std.specs.Prelude.{All, Option, Some, None, Result, Ok, Err, MatchBool, nat_lt, if◌then◌else◌}
use Rattle.std.specs.FinMap as map
use Rattle.std.proofs.lemmas.List.Elements.{All-head, All-tail}
use Rattle.doc_page_parts.specs.Refusals.{Gives}
use Rattle.doc_http.specs.declared.request.Next.{Next}
use Rattle.doc_http.specs.declared.request.Next.TheVariants as nexts
use Rattle.doc_hub.specs.Replies.{Renders}
use Rattle.doc_hub_events.specs.Events.{Said, SaidOn}
use Rattle.doc_hub_events.specs.declared.event.ConnectionEvent.{ConnectionEvent}
use Rattle.doc_hub_events.specs.declared.event.ConnectionEvent.TheVariants as calls
use Rattle.doc_hub_events.specs.declared.event.Event.{Event}
use Rattle.doc_hub_events.specs.declared.event.Event.TheVariants as events
use Rattle.doc_hub_events.specs.declared.event.Step.{Step}
use Rattle.doc_hub_events.specs.declared.event.Step.TheVariants as steps
use Rattle.doc_hub_events.specs.declared.refusal.ConnectError.TheVariants as connect_errors
use Rattle.doc_hub_events.specs.declared.refusal.PushError.TheVariants as push_errors
use Rattle.doc_hub_events.specs.declared.refusal.StepError.{StepError}
use Rattle.doc_hub_events.specs.declared.refusal.StepError.TheVariants as step_errors
use Rattle.doc_hub.specs.Runs.{Happened, Happens, HappensOn, Runs, nothing, first}
use Rattle.doc_hub.specs.Worlds.{World, Answers, Stays, StepsAt, connected, disconnected, last_id, stepped_by, world_pushed}
use Rattle.doc_hub.specs.declared.connection.Connection.{Connection}
use Rattle.doc_server_turns.specs.QuietRuns.{IsOfPeers}
use Rattle.doc_server_turns.proofs.Sites.{connected_if}

abbrev NoFewer : World → World → Type 0
NoFewer w v = w.given ≤ v.given

as_many : (n : ℕ) → n ≤ n
as_many n = omega arith

one_more : (n : ℕ) → n ≤ n + 1
one_more n = omega arith

more_yet : (a b c : ℕ) → a ≤ b → b ≤ c → a ≤ c
more_yet a b c le more = omega (arith, le, more)

by_gives : {X E : Type 0} (memory : E) (given : World × Result X E) (w v : World) (r : Result X E) → NoFewer w given.0
    → Gives memory given w v r → NoFewer w v
by_gives {X = X} {E = E} memory given w v (Ok x) more gives = subst (λ (q : World × Result X E). NoFewer w q.0) gives more
by_gives memory given w v (Err e) more gives = subst (NoFewer w) (sym gives.1) (as_many w.given)

by_equation : {S : Type 0} (given : World × S) (w v : World) (said : S) → NoFewer w given.0 → ◌≡◌ {A = World × S} given (v, said)
    → NoFewer w v
by_equation {S = S} given w v said more is = subst (λ (q : World × S). NoFewer w q.0) is more

by_stay : (w v : World) → v ≡ w → NoFewer w v
by_stay w v is = subst (NoFewer w) (sym is) (as_many w.given)

connect_gives : (w : World) (t : Bool) → NoFewer w (connected_if w t).0
connect_gives w true = one_more w.given
connect_gives w false = as_many w.given

module _ (render : Renders) (w v : World) (n : ℕ) where
  front_gives : (c : Connection) (next : Next) → NoFewer w (stepped_by render w n c next).0
  front_gives c nexts.More = as_many w.given
  front_gives c (nexts.Fault code bare) = as_many w.given
  front_gives c (nexts.Request used request) = as_many w.given

  answers_give : (c : Connection) (r : Result Step StepError) → Answers render w n v r c → NoFewer w v
  answers_give c (Ok said) (next, is, e) = by_equation (stepped_by render w n c next) w v (Ok said) (front_gives c next) e
  answers_give c (Err step_errors.NoConnection) (next, is, e) =
      by_equation (stepped_by render w n c next) w v (Err step_errors.NoConnection) (front_gives c next) e
  answers_give c (Err step_errors.Memory) h = by_stay w v h.0

  open_gives : (c : Connection) (r : Result Step StepError) (closed : Bool)
      → MatchBool closed (Stays w (Ok steps.Closed) v r) (Answers render w n v r c) → NoFewer w v
  open_gives c r true h = by_stay w v h.0
  open_gives c r false h = answers_give c r h

  step_gives : (k : Option Connection) (r : Result Step StepError) → StepsAt render w n v r k → NoFewer w v
  step_gives None r h = by_stay w v h.0
  step_gives (Some c) r h = open_gives c r c.closed h

  on_gives : (call : ConnectionEvent) (said : SaidOn call) → HappensOn render w n call v said → NoFewer w v
  on_gives (calls.Push bytes) said h = by_gives push_errors.Memory (world_pushed w n bytes) w v said (as_many w.given) h
  on_gives calls.Step said h = step_gives (map.get w.connections n) said h
  on_gives calls.Disconnect said h = by_equation (disconnected w n) w v said (as_many w.given) h

event_gives : (render : Renders) (w v : World) (event : Event) (said : Said event) → IsOfPeers event → Happens render w event v said
    → NoFewer w v
event_gives render w v events.Connect said own h =
    by_gives connect_errors.Memory (connected w) w v said (connect_gives w (nat_lt w.given last_id)) h
event_gives render w v (events.On id call) said own h = on_gives render w v id.0 call said h
event_gives render w v (events.TakePuts takes) said own h = subst (NoFewer w) (sym h) (as_many w.given)
event_gives render w v (events.Site edit) said own h = absurd own
event_gives render w v (events.Reader edit) said own h = absurd own
event_gives render w v (events.SetMedia media) said own h = absurd own

abbrev IsOwn : Happened → Type 0
IsOwn h = IsOfPeers h.event

pub given_more : (render : Renders) (w v : World) (run : List Happened) → All IsOwn run → Runs render w run v → w.given ≤ v.given
given_more render w v run own (nothing x) = as_many w.given
given_more render w v run own (first x y z event outcome rest (said, h, told) runs) =
    let here : Happened = record { world = x; event = event; outcome = outcome } in
    more_yet x.given y.given z.given (event_gives render x y event said (All-head IsOwn here rest own) h)
    (given_more render y z rest (All-tail IsOwn here rest own) runs)
