-- No event but the one for that changes whether the server takes puts.
use Rattle.std.proofs.Common.{◌≡◌, ℕ, Bool, true, false, refl, ap, ◌∙◌}
use Rattle.std.specs.Prelude.{MatchBool, Option, Some, None, Result, Ok, Err, nat_lt}
use Rattle.std.specs.FinMap as map
use Rattle.std.proofs.lemmas.List.Elements.{All-head, All-tail}
use Rattle.doc_http.specs.declared.request.Next.{Next}
use Rattle.doc_http.specs.declared.request.Next.TheVariants as nexts
use Rattle.doc_hub_replies.specs.Replies.{Renders}
use Rattle.doc_hub_events.specs.Events.{Said, SaidOn}
use Rattle.doc_hub_events.specs.declared.event.ConnectionEvent.{ConnectionEvent}
use Rattle.doc_hub_events.specs.declared.event.ConnectionEvent.TheVariants as calls
use Rattle.doc_hub_events.specs.declared.event.Event.{Event}
use Rattle.doc_hub_events.specs.declared.event.Event.TheVariants as events
use Rattle.doc_hub_events.specs.declared.event.Step.{Step}
use Rattle.doc_hub_events.specs.declared.event.Step.TheVariants as steps
use Rattle.doc_hub_events.specs.declared.refusal.ConnectError.TheVariants as connect_errors
use Rattle.doc_hub_events.specs.declared.refusal.PushError.TheVariants as push_errors
use Rattle.doc_hub_events.specs.declared.refusal.StepError.{StepError}
use Rattle.doc_hub_events.specs.declared.refusal.StepError.TheVariants as step_errors
use Rattle.doc_hub.specs.FreshLaws.{IsNoTaking, TakingStands}
use Rattle.doc_hub.specs.Runs.{Happened, Happens, HappensOn, nothing, first}
use Rattle.doc_hub.specs.Worlds.{World, Answers, Stays, StepsAt, connected, disconnected, last_id, stepped_by, world_pushed}
use Rattle.doc_hub.specs.declared.connection.Connection.{Connection}
use Rattle.doc_hub.proofs.KindSteps.{by_equation, by_gives, leaves_all_but_media, leaves_all_but_readers, leaves_all_but_site}
use Rattle.doc_hub.proofs.PutCounts.{connected_if}

abbrev Takes : World → World → Type 0
Takes w v = v.takes_puts ≡ w.takes_puts

stays : (w v : World) → v ≡ w → Takes w v
stays w v is = ap (λ (x : World). x.takes_puts) is

connect_stands : (w : World) (t : Bool) → Takes w (connected_if w t).0
connect_stands w true = refl
connect_stands w false = refl

module _ (render : Renders) (w v : World) (n : ℕ) where
  front_stands : (c : Connection) (next : Next) → Takes w (stepped_by render w n c next).0
  front_stands c nexts.More = refl
  front_stands c (nexts.Fault code bare) = refl
  front_stands c (nexts.Request used request) = refl

  answers_stand : (c : Connection) (r : Result Step StepError) → Answers render w n v r c → Takes w v
  answers_stand c (Ok said) (next, is, e) = by_equation (Takes w) (stepped_by render w n c next) v (Ok said) (front_stands c next) e
  answers_stand c (Err step_errors.NoConnection) (next, is, e) =
      by_equation (Takes w) (stepped_by render w n c next) v (Err step_errors.NoConnection) (front_stands c next) e
  answers_stand c (Err step_errors.Memory) h = stays w v h.0

  open_stands : (c : Connection) (r : Result Step StepError) (closed : Bool)
      → MatchBool closed (Stays w (Ok steps.Closed) v r) (Answers render w n v r c) → Takes w v
  open_stands c r true h = stays w v h.0
  open_stands c r false h = answers_stand c r h

  step_stands : (k : Option Connection) (r : Result Step StepError) → StepsAt render w n v r k → Takes w v
  step_stands None r h = stays w v h.0
  step_stands (Some c) r h = open_stands c r c.closed h

  on_stands : (call : ConnectionEvent) (said : SaidOn call) → HappensOn render w n call v said → Takes w v
  on_stands (calls.Push bytes) said h = by_gives (Takes w) push_errors.Memory (world_pushed w n bytes) w v said refl refl h
  on_stands calls.Step said h = step_stands (map.get w.connections n) said h
  on_stands calls.Disconnect said h = by_equation (Takes w) (disconnected w n) v said refl h

event_stands : (render : Renders) (w v : World) (event : Event) (said : Said event) → IsNoTaking event → Happens render w event v said
    → Takes w v
event_stands render w v events.Connect said other h =
    by_gives (Takes w) connect_errors.Memory (connected w) w v said refl (connect_stands w (nat_lt w.given last_id)) h
event_stands render w v (events.On n call) said other h = on_stands render w v n.0 call said h
event_stands render w v (events.Site edit) said other h = ap (λ (x : World). x.takes_puts) (leaves_all_but_site w v edit said h)
event_stands render w v (events.Reader edit) said other h = ap (λ (x : World). x.takes_puts) (leaves_all_but_readers w v edit said h)
event_stands render w v (events.TakePuts takes) said other h = absurd other
event_stands render w v (events.SetMedia media) said other h =
    ap (λ (x : World). x.takes_puts) (leaves_all_but_media w v media said h)

pub taking_stands : TakingStands
taking_stands render w v run (nothing x) others = refl
taking_stands render w v run (first x y z event outcome rest (said, h, told) runs) others =
    let here : Happened = record { world = x; event = event; outcome = outcome } in
    let IsOther : Happened → Type 0 = λ g. IsNoTaking g.event in
    taking_stands render y z rest runs (All-tail IsOther here rest others)
    ∙ event_stands render x y event said (All-head IsOther here rest others) h
