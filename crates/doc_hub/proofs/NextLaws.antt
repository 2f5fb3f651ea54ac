-- Events of connections where memory sufficed: what they leave and answer, as one equation.
use Rattle.std.proofs.Common.{◌≡◌, ℕ, List, Bool, true, false, refl, ap, sym, ◌∙◌, subst}
use Rattle.std.specs.Prelude.{Option, Some, None, Result, Ok, Err, MatchBool, nat_lt, if◌then◌else◌, ⊤}
use Rattle.std.specs.FinMap as map
use Rattle.doc_page_parts.specs.Refusals.{Gives}
use Rattle.doc_http.specs.Requests.{IsNext}
use Rattle.doc_http.specs.declared.request.Next.{Next as Front}
use Rattle.doc_hub.specs.Connections.{Connections, pushed_at, with_pushed}
use Rattle.doc_hub_events.specs.Events.{SaidOn, connecting, outcome_on, pushing, stepping}
use Rattle.doc_hub.specs.declared.connection.Connection.{Connection}
use Rattle.doc_hub_events.specs.declared.event.ConnId.{ConnId}
use Rattle.doc_hub_events.specs.declared.event.ConnectionEvent.{ConnectionEvent}
use Rattle.doc_hub_events.specs.declared.event.ConnectionEvent.TheVariants as calls
use Rattle.doc_hub_events.specs.declared.event.Event.{Event}
use Rattle.doc_hub_events.specs.declared.event.Event.TheVariants as events
use Rattle.doc_hub_events.specs.declared.event.Step.{Step}
use Rattle.doc_hub_events.specs.declared.event.Step.TheVariants as steps
use Rattle.doc_hub_events.specs.declared.outcome.Outcome.{Outcome}
use Rattle.doc_hub_events.specs.declared.outcome.Outcome.TheVariants as outcomes
use Rattle.doc_hub_events.specs.declared.refusal.ConnectError.{ConnectError}
use Rattle.doc_hub_events.specs.declared.refusal.ConnectError.TheVariants as connect_errors
use Rattle.doc_hub_events.specs.declared.refusal.PushError.{PushError}
use Rattle.doc_hub_events.specs.declared.refusal.PushError.TheVariants as push_errors
use Rattle.doc_hub_events.specs.declared.refusal.StepError.{StepError}
use Rattle.doc_hub_events.specs.declared.refusal.StepError.TheVariants as step_errors
use Rattle.doc_hub_replies.specs.Replies.{Renders}
use Rattle.doc_hub.specs.Worlds.{World, connected, world_pushed, disconnected, stepped_by, Stays, Answers, StepsAt, last_id}
use Rattle.doc_hub.specs.Runs.{HappensOn, Leaves, IsOutOfMemory}

-- the state is as before, where the call was refused
abbrev pub KeptBy : {W X E : Type 0} → W → Result X E → W → Type 0
KeptBy new (Ok x) old = ⊤
KeptBy new (Err e) old = new ≡ old

abbrev pub Kept : {W X E : Type 0} → W × Result X E → W → Type 0
Kept given old = KeptBy given.0 given.1 old

-- where memory sufficed, what a call gives is its definition's
pub exactly : {W X E : Type 0} (memory : E) (w old new : W) (g r : Result X E) → Gives memory (w, g) old new r → ¬ (r ≡ Err memory)
    → KeptBy w g old → ◌≡◌ {A = W × Result X E} (w, g) (new, r)
exactly memory w old new g (Ok x) gives enough kept = gives
exactly memory w old new (Ok x) (Err e) gives enough kept = absurd (enough (ap Err gives.0))
exactly memory w old new (Err f) (Err e) gives enough kept = λ i. ((kept ∙ sym gives.1) i, Err (sym gives.0 i))

connect_keeps : (w v : World) (id : ConnId) (t : Bool)
    → Kept {X = ConnId} {E = ConnectError} (if t then (v, Ok id) else (w, Err connect_errors.NoIds)) w
connect_keeps w v id true = tt
connect_keeps w v id false = refl

abbrev pushed_world : World → Connections × Result (Unit {0}) PushError → World × Result (Unit {0}) PushError
pushed_world w r = (record w { connections = r.0 }, r.1)

with_pushed_keeps : (w : World) (id : ℕ) (c : Connection) (r : Result (Unit {0}) PushError)
    → Kept (pushed_world w (with_pushed w.connections id c r)) w
with_pushed_keeps w id c (Ok x) = tt
with_pushed_keeps w id c (Err e) = refl

push_keeps : (w : World) (id : ℕ) (bytes : List ℕ) (k : Option Connection) → Kept (pushed_world w (pushed_at w.connections id bytes k)) w
push_keeps w id bytes None = refl
push_keeps w id bytes (Some c) = with_pushed_keeps w id _ _

-- ---- the next world and the outcome

abbrev pub shown : {S : Type 0} → (S → Outcome) → World × S → World × Outcome
shown as_outcome given = (given.0, as_outcome given.1)

abbrev pub Is : World × Outcome → World → Outcome → Type 0
Is given v outcome = given ≡ (v, outcome)

abbrev pub NextStep : Renders → World → ℕ → Option Connection → World → Outcome → Type 0
NextStep render w id None v o = Is (w, stepping (Err step_errors.NoConnection)) v o
NextStep render w id (Some c) v o =
    MatchBool c.closed (Is (w, stepping (Ok steps.Closed)) v o)
    ((next : Front) × IsNext c.unread next × Is (shown stepping (stepped_by render w id c next)) v o)

abbrev pub NextOn : Renders → World → ℕ → ConnectionEvent → World → Outcome → Type 0
NextOn render w id (calls.Push bytes) v o = Is (shown pushing (world_pushed w id bytes)) v o
NextOn render w id calls.Step v o = NextStep render w id (map.get w.connections id) v o
NextOn render w id calls.Disconnect v o = Is (shown outcomes.Disconnected (disconnected w id)) v o

abbrev pub Next : Renders → World → Event → World → Outcome → Type 0
Next render w events.Connect v o = Is (shown connecting (connected w)) v o
Next render w (events.On id call) v o = NextOn render w id.0 call v o
Next render w edit v o = ⊤

unchanged : (w v : World) (said r : Result Step StepError) → Stays w said v r → Is (w, stepping said) v (stepping r)
unchanged w v said r h = λ i. (sym h.0 i, stepping (sym h.1 i))

answers_next : (render : Renders) (w : World) (id : ℕ) (c : Connection) (v : World) (r : Result Step StepError)
    → ¬ (r ≡ Err step_errors.Memory) → Answers render w id v r c
    → (next : Front) × IsNext c.unread next × Is (shown stepping (stepped_by render w id c next)) v (stepping r)
answers_next render w id c v (Ok said) enough (next, is, e) = (next, is, ap (shown stepping) e)
answers_next render w id c v (Err step_errors.NoConnection) enough (next, is, e) = (next, is, ap (shown stepping) e)
answers_next render w id c v (Err step_errors.Memory) enough h = absurd (enough refl)

open_next : (render : Renders) (w : World) (id : ℕ) (c : Connection) (v : World) (r : Result Step StepError) (t : Bool)
    → ¬ (r ≡ Err step_errors.Memory)
    → MatchBool t (Stays w (Ok steps.Closed) v r) (Answers render w id v r c)
    → MatchBool t (Is (w, stepping (Ok steps.Closed)) v (stepping r)) ((next : Front) × IsNext c.unread next
    × Is (shown stepping (stepped_by render w id c next)) v (stepping r))
open_next render w id c v r true enough h = unchanged w v (Ok steps.Closed) r h
open_next render w id c v r false enough h = answers_next render w id c v r enough h

step_next : (render : Renders) (w : World) (id : ℕ) (k : Option Connection) (v : World) (r : Result Step StepError)
    → ¬ (r ≡ Err step_errors.Memory) → StepsAt render w id v r k → NextStep render w id k v (stepping r)
step_next render w id None v r enough h = unchanged w v (Err step_errors.NoConnection) r h
step_next render w id (Some c) v r enough h = open_next render w id c v r c.closed enough h

-- what a call gives, as a run tells it
told : {S : Type 0} (as_outcome : S → Outcome) (given : World × S) (v : World) (said : S) (o : Outcome) → given ≡ (v, said)
    → o ≡ as_outcome said → Is (shown as_outcome given) v o
told as_outcome given v said o e is = ap (shown as_outcome) e ∙ ap (λ x. (v, x)) (sym is)

next_on : (render : Renders) (w : World) (id : ℕ) (call : ConnectionEvent) (v : World) (o : Outcome) → ¬ (IsOutOfMemory o)
    → (said : SaidOn call) → HappensOn render w id call v said → o ≡ outcome_on call said → NextOn render w id call v o
next_on render w id (calls.Push bytes) v o enough said h is =
    let given = world_pushed w id bytes in
    told pushing given v said o
    (exactly push_errors.Memory given.0 w v given.1 said h (λ m. enough (is ∙ ap pushing m))
    (push_keeps w id bytes (map.get w.connections id))) is
next_on render w id calls.Step v o enough said h is =
    subst (λ x. NextStep render w id (map.get w.connections id) v x) (sym is)
    (step_next render w id (map.get w.connections id) v said (λ m. enough (is ∙ ap stepping m)) h)
next_on render w id calls.Disconnect v o enough said h is = told outcomes.Disconnected (disconnected w id) v said o h is

pub next_of : (render : Renders) (w : World) (event : Event) (v : World) (outcome : Outcome) → ¬ (IsOutOfMemory outcome)
    → Leaves render w event v outcome → Next render w event v outcome
next_of render w events.Connect v o enough (said, h, is) =
    told connecting (connected w) v said o
    (exactly connect_errors.Memory (connected w).0 w v (connected w).1 said h (λ m. enough (is ∙ ap connecting m))
    (connect_keeps w _ _ (nat_lt w.given last_id))) is
next_of render w (events.On id call) v o enough (said, h, is) = next_on render w id.0 call v o enough said h is
next_of render w event v o enough leaves = tt
