-- Pushes, steps and disconnects elsewhere leave a connection as it was.
use Rattle.std.proofs.Common.{◌≡◌, ℕ, List, Bool, true, false, cond, refl, ap, ◌∙◌, subst, ◌==◌}
use Rattle.std.specs.Prelude.{All, Option, Some, None, Result, Ok, Err, MatchBool}
use Rattle.std.specs.FinMap as map
use Rattle.std.specs.Cmp.{unsigned_tied}
use Rattle.std.proofs.lemmas.Cmp.{nat_cmp_total}
use Rattle.std.proofs.lemmas.List.Elements.{All-head, All-tail}
use Rattle.doc_page_parts.specs.Refusals.{Gives}
use Rattle.doc_http.specs.declared.request.Next.{Next as Front}
use Rattle.doc_http.specs.declared.request.Next.TheVariants as nexts
use Rattle.doc_hub.specs.Connections.{pushed_onto, with_pushed, pushed_at, finished}
use Rattle.doc_hub_replies.specs.Replies.{Renders}
use Rattle.doc_hub.specs.Runs.{HappensOn, Happened, Leaves, Runs, nothing, first}
use Rattle.doc_hub.specs.StepLaws.{connection}
use Rattle.doc_hub.specs.Worlds.{World, Answers, Stays, StepsAt, answer_in, disconnected, stepped_by, world_after, world_pushed}
use Rattle.doc_hub.specs.declared.connection.Connection.{Connection}
use Rattle.doc_hub_events.specs.declared.event.Event.{Event}
use Rattle.doc_hub_events.specs.Events.{SaidOn}
use Rattle.doc_hub_events.specs.declared.event.ConnectionEvent.{ConnectionEvent}
use Rattle.doc_hub_events.specs.declared.event.ConnectionEvent.TheVariants as calls
use Rattle.doc_hub_events.specs.declared.event.Event.TheVariants as events
use Rattle.doc_hub_events.specs.declared.event.Step.{Step}
use Rattle.doc_hub_events.specs.declared.event.Step.TheVariants as steps
use Rattle.doc_hub_events.specs.declared.refusal.PushError.{PushError}
use Rattle.doc_hub_events.specs.declared.refusal.PushError.TheVariants as push_errors
use Rattle.doc_hub_events.specs.declared.refusal.StepError.{StepError}
use Rattle.doc_hub_events.specs.declared.refusal.StepError.TheVariants as step_errors
use Rattle.doc_hub_events.specs.declared.outcome.Outcome.{Outcome}
use Rattle.doc_hub.specs.RunParts.{served_by}

-- pushes, steps and disconnects, none of this connection
abbrev pub AreElsewhere : ℕ → List Happened → Type 0
AreElsewhere c run = All (λ h. (n : ℕ) × (served_by h.event ≡ Some n) × ((c == n) ≡ false)) run

some_is : (n m : ℕ) → ◌≡◌ {A = Option ℕ} (Some n) (Some m) → n ≡ m
some_is n m e = cc

none_is : (m : ℕ) → ◌≡◌ {A = Option ℕ} None (Some m) → ⊥
none_is m e = cc

module _ (render : Renders) (c : ℕ) where
  abbrev Kept : World → World → Type 0
  Kept w v = connection c v ≡ connection c w

  -- one connection changes
  put_at : (w : World) (n : ℕ) (k : Connection) → (c == n) ≡ false → map.get (map.insert w.connections n k) c ≡ connection c w
  put_at w n k off =
      map.get-insert nat_cmp_total w.connections n k c ∙ ap (λ t. cond t (Some k) (connection c w)) (unsigned_tied c n ∙ off)

  gone_at : (w : World) (n : ℕ) → (c == n) ≡ false → map.get (map.remove w.connections n) c ≡ connection c w
  gone_at w n off =
      map.get-remove nat_cmp_total w.connections n c ∙ ap (λ t. cond t None (connection c w)) (unsigned_tied c n ∙ off)

  -- through the equation of what is left and answered
  kept_by : {S : Type 0} (w v : World) (given : World × S) (said : S) → ◌≡◌ {A = World × S} given (v, said) → Kept w given.0 → Kept w v
  kept_by {S = S} w v given said is kept = subst (λ (q : World × S). Kept w q.0) is kept

  same_world : (w v : World) → v ≡ w → Kept w v
  same_world w v is = ap (connection c) is

  front_elsewhere : (w : World) (n : ℕ) (k : Connection) (f : Front) → (c == n) ≡ false → Kept w (stepped_by render w n k f).0
  front_elsewhere w n k nexts.More off = refl
  front_elsewhere w n k (nexts.Fault code bare) off = put_at w n (finished k 0 true) off
  front_elsewhere w n k (nexts.Request used request) off =
      let a = answer_in render w request in put_at (world_after w request a) n (finished k used a.closes) off

  answer_elsewhere : (w v : World) (n : ℕ) (k : Connection) (r : Result Step StepError) → (c == n) ≡ false → Answers render w n v r k
      → Kept w v
  answer_elsewhere w v n k (Ok said) off (f, is, e) = kept_by w v (stepped_by render w n k f) (Ok said) e (front_elsewhere w n k f off)
  answer_elsewhere w v n k (Err step_errors.NoConnection) off (f, is, e) =
      kept_by w v (stepped_by render w n k f) (Err step_errors.NoConnection) e (front_elsewhere w n k f off)
  answer_elsewhere w v n k (Err step_errors.Memory) off h = same_world w v h.0

  open_elsewhere : (w v : World) (n : ℕ) (k : Connection) (r : Result Step StepError) (t : Bool) → (c == n) ≡ false
      → MatchBool t (Stays w (Ok steps.Closed) v r) (Answers render w n v r k) → Kept w v
  open_elsewhere w v n k r true off h = same_world w v h.0
  open_elsewhere w v n k r false off h = answer_elsewhere w v n k r off h

  step_elsewhere : (w v : World) (n : ℕ) (k : Option Connection) (r : Result Step StepError) → (c == n) ≡ false
      → StepsAt render w n v r k → Kept w v
  step_elsewhere w v n None r off h = same_world w v h.0
  step_elsewhere w v n (Some k) r off h = open_elsewhere w v n k r k.closed off h

  with_pushed_elsewhere : (w : World) (n : ℕ) (k : Connection) (r : Result (Unit {0}) PushError) → (c == n) ≡ false
      → map.get (with_pushed w.connections n k r).0 c ≡ connection c w
  with_pushed_elsewhere w n k (Ok x) off = put_at w n k off
  with_pushed_elsewhere w n k (Err e) off = refl

  pushed_elsewhere : (w : World) (n : ℕ) (bytes : List ℕ) (k : Option Connection) → (c == n) ≡ false
      → map.get (pushed_at w.connections n bytes k).0 c ≡ connection c w
  pushed_elsewhere w n bytes None off = refl
  pushed_elsewhere w n bytes (Some k) off = with_pushed_elsewhere w n (pushed_onto k bytes).0 (pushed_onto k bytes).1 off

  push_elsewhere : (w v : World) (n : ℕ) (bytes : List ℕ) (r : Result (Unit {0}) PushError) → (c == n) ≡ false
      → Gives push_errors.Memory (world_pushed w n bytes) w v r → Kept w v
  push_elsewhere w v n bytes (Ok x) off h =
      kept_by w v (world_pushed w n bytes) (Ok x) h (pushed_elsewhere w n bytes (connection n w) off)
  push_elsewhere w v n bytes (Err e) off h = same_world w v h.1

  on_elsewhere : (w v : World) (n : ℕ) (call : ConnectionEvent) (said : SaidOn call) → (c == n) ≡ false
      → HappensOn render w n call v said → Kept w v
  on_elsewhere w v n (calls.Push bytes) said off h = push_elsewhere w v n bytes said off h
  on_elsewhere w v n calls.Step said off h = step_elsewhere w v n (connection n w) said off h
  on_elsewhere w v n calls.Disconnect said off h = kept_by w v (disconnected w n) said h (gone_at w n off)

  event_elsewhere : (w v : World) (event : Event) (outcome : Outcome) (n : ℕ) → served_by event ≡ Some n → (c == n) ≡ false
      → Leaves render w event v outcome → Kept w v
  event_elsewhere w v (events.On id call) outcome n on off (said, h, told) =
      on_elsewhere w v id.0 call said (ap (λ m. c == m) (some_is id.0 n on) ∙ off) h
  event_elsewhere w v event outcome n on off h = absurd (none_is n on)

  pub kept_elsewhere : (w v : World) (run : List Happened) → Runs render w run v → AreElsewhere c run → Kept w v
  kept_elsewhere w v run (nothing x) off = refl
  kept_elsewhere w v run (first x y z event outcome rest happens runs) off =
      let h : Happened = record { world = x; event = event; outcome = outcome } in
      let now = All-head (λ g. (n : ℕ) × (served_by g.event ≡ Some n) × ((c == n) ≡ false)) h rest off in
      kept_elsewhere y z rest runs (All-tail (λ g. (n : ℕ) × (served_by g.event ≡ Some n) × ((c == n) ≡ false)) h rest off)
      ∙ event_elsewhere x y event outcome now.0 now.1 now.2 happens
