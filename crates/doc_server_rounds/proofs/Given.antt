-- Pushes, steps and disconnects give no number.
use Rattle.std.proofs.Common.{◌≡◌, ℕ, List, Bool, true, false, refl, ap, ◌∙◌, subst}
use Rattle.std.specs.Prelude.{All, Option, Some, None, Result, Ok, Err, MatchBool}
use Rattle.std.proofs.lemmas.List.Elements.{All-head, All-tail}
use Rattle.doc_page_parts.specs.Refusals.{Gives}
use Rattle.doc_http.specs.declared.request.Next.{Next as Front}
use Rattle.doc_http.specs.declared.request.Next.TheVariants as nexts
use Rattle.doc_hub.specs.Replies.{Renders}
use Rattle.doc_hub.specs.Runs.{HappensOn, Happened, Leaves, Runs, nothing, first}
use Rattle.doc_hub.specs.StepLaws.{connection}
use Rattle.doc_hub.specs.Worlds.{World, Answers, Stays, StepsAt, disconnected, stepped_by, world_pushed}
use Rattle.doc_hub.specs.declared.connection.Connection.{Connection}
use Rattle.doc_hub_events.specs.declared.event.Event.{Event}
use Rattle.doc_hub_events.specs.Events.{SaidOn}
use Rattle.doc_hub_events.specs.declared.event.ConnectionEvent.{ConnectionEvent}
use Rattle.doc_hub_events.specs.declared.event.ConnectionEvent.TheVariants as calls
use Rattle.doc_hub_events.specs.declared.event.Event.TheVariants as events
use Rattle.doc_hub_events.specs.declared.event.Step.{Step}
use Rattle.doc_hub_events.specs.declared.event.Step.TheVariants as steps
use Rattle.doc_hub_events.specs.declared.outcome.Outcome.{Outcome}
use Rattle.doc_hub_events.specs.declared.refusal.PushError.{PushError}
use Rattle.doc_hub_events.specs.declared.refusal.PushError.TheVariants as push_errors
use Rattle.doc_hub_events.specs.declared.refusal.StepError.{StepError}
use Rattle.doc_hub_events.specs.declared.refusal.StepError.TheVariants as step_errors
use Rattle.doc_hub.specs.RunParts.{served_by}

-- a push, a step or a disconnect
abbrev pub IsServed : Happened → Type 0
IsServed h = (n : ℕ) × (served_by h.event ≡ Some n)

none_is : (m : ℕ) → ◌≡◌ {A = Option ℕ} None (Some m) → ⊥
none_is m e = cc

module _ (render : Renders) where
  abbrev Kept : World → World → Type 0
  Kept w v = v.given ≡ w.given

  -- through the equation of what is left and answered
  kept_by : {S : Type 0} (w v : World) (told : World × S) (said : S) → ◌≡◌ {A = World × S} told (v, said) → Kept w told.0 → Kept w v
  kept_by {S = S} w v told said is kept = subst (λ (q : World × S). Kept w q.0) is kept

  front_keeps : (w : World) (n : ℕ) (k : Connection) (f : Front) → Kept w (stepped_by render w n k f).0
  front_keeps w n k nexts.More = refl
  front_keeps w n k (nexts.Fault code bare) = refl
  front_keeps w n k (nexts.Request used request) = refl

  answer_keeps : (w v : World) (n : ℕ) (k : Connection) (r : Result Step StepError) → Answers render w n v r k → Kept w v
  answer_keeps w v n k (Ok said) (f, is, e) = kept_by w v (stepped_by render w n k f) (Ok said) e (front_keeps w n k f)
  answer_keeps w v n k (Err step_errors.NoConnection) (f, is, e) =
      kept_by w v (stepped_by render w n k f) (Err step_errors.NoConnection) e (front_keeps w n k f)
  answer_keeps w v n k (Err step_errors.Memory) h = ap (λ x. x.given) h.0

  open_keeps : (w v : World) (n : ℕ) (k : Connection) (r : Result Step StepError) (t : Bool)
      → MatchBool t (Stays w (Ok steps.Closed) v r) (Answers render w n v r k) → Kept w v
  open_keeps w v n k r true h = ap (λ x. x.given) h.0
  open_keeps w v n k r false h = answer_keeps w v n k r h

  step_keeps : (w v : World) (n : ℕ) (k : Option Connection) (r : Result Step StepError) → StepsAt render w n v r k → Kept w v
  step_keeps w v n None r h = ap (λ x. x.given) h.0
  step_keeps w v n (Some k) r h = open_keeps w v n k r k.closed h

  push_keeps : (w v : World) (n : ℕ) (bytes : List ℕ) (r : Result (Unit {0}) PushError)
      → Gives push_errors.Memory (world_pushed w n bytes) w v r → Kept w v
  push_keeps w v n bytes (Ok x) h = kept_by w v (world_pushed w n bytes) (Ok x) h refl
  push_keeps w v n bytes (Err e) h = ap (λ x. x.given) h.1

  on_keeps : (w v : World) (n : ℕ) (call : ConnectionEvent) (said : SaidOn call) → HappensOn render w n call v said → Kept w v
  on_keeps w v n (calls.Push bytes) said h = push_keeps w v n bytes said h
  on_keeps w v n calls.Step said h = step_keeps w v n (connection n w) said h
  on_keeps w v n calls.Disconnect said h = kept_by w v (disconnected w n) said h refl

  event_keeps : (w v : World) (event : Event) (outcome : Outcome) (n : ℕ) → served_by event ≡ Some n → Leaves render w event v outcome
      → Kept w v
  event_keeps w v (events.On id call) outcome n on (said, h, told) = on_keeps w v id.0 call said h
  event_keeps w v event outcome n on h = absurd (none_is n on)

  pub given_kept : (w v : World) (run : List Happened) → Runs render w run v → All IsServed run → Kept w v
  given_kept w v run (nothing x) all = refl
  given_kept w v run (first x y z event outcome rest happens runs) all =
      let h : Happened = record { world = x; event = event; outcome = outcome } in
      let now = All-head IsServed h rest all in
      given_kept y z rest runs (All-tail IsServed h rest all) ∙ event_keeps x y event outcome now.0 now.1 happens
