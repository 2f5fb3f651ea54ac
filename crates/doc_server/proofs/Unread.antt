-- Steps that send a reply take unread bytes.
use Rattle.std.proofs.Common.{◌≡◌, ℕ, ◌<◌, ◌≤◌, List, [], ◌∷◌, Bool, true, false, cond, T, length, drop, sym, ap, ◌∙◌, subst, ◌==◌, arith}
use Rattle.std.proofs.Common.{length-drop}
use Rattle.std.specs.Prelude.{Option, Some, None, Result, Ok, Err, is_ok, MatchBool, if◌then◌else◌, ⊤}
use Rattle.std.specs.FinMap as map
use Rattle.std.specs.Cmp.{unsigned_tied}
use Rattle.std.proofs.lemmas.Cmp.{nat_cmp_total}
use Rattle.doc_http.specs.declared.request.Next.{Next as Front}
use Rattle.doc_http.specs.declared.request.Next.TheVariants as nexts
use Rattle.doc_http.specs.Requests.{IsNext}
use Rattle.doc_http.proofs.TakenLemmas.{takes_bytes, empty_is_undecided}
use Rattle.doc_hub.specs.Connections.{finished}
use Rattle.doc_hub.specs.Replies.{Renders}
use Rattle.doc_hub.specs.Worlds.{World, answer_in, world_after, with_finished, stepped_by, Stays, Answers, StepsAt}
use Rattle.doc_hub.specs.Runs.{Happens, Leaves}
use Rattle.doc_hub_events.specs.Events.{step_on, stepping}
use Rattle.doc_hub_events.specs.declared.outcome.Outcome.{Outcome}
use Rattle.doc_hub.specs.declared.connection.Connection.{Connection}
use Rattle.doc_hub_events.specs.declared.event.Step.{Step}
use Rattle.doc_hub_events.specs.declared.event.Step.TheVariants as steps
use Rattle.doc_hub_events.specs.declared.refusal.StepError.{StepError}
use Rattle.doc_hub_events.specs.declared.refusal.StepError.TheVariants as step_errors
use Rattle.doc_server.specs.Demo.{Sends}
use Rattle.doc_server.specs.DemoSteps.{IsMade}

-- ---- a fault has a byte at least

abbrev NoFault : Front → Type 0
NoFault nexts.More = ⊤
NoFault (nexts.Fault code bare) = ⊥
NoFault (nexts.Request used request) = ⊤

fault_has_bytes : (bytes : List ℕ) (code : ℕ) (bare : Bool) → IsNext bytes (nexts.Fault code bare) → 1 ≤ length bytes
fault_has_bytes [] code bare found = absurd (subst NoFault (sym (empty_is_undecided (nexts.Fault code bare) found)) tt)
fault_has_bytes (b ∷ rest) code bare found = omega arith

-- ---- what is left unread

abbrev unread_of : Option Connection → ℕ
unread_of None = 0
unread_of (Some k) = length k.unread

-- how many bytes a connection has unread
abbrev pub unread_len : World → ℕ → ℕ
unread_len w id = unread_of (map.get w.connections id)

itself : (id : ℕ) → (id == id) ≡ true
itself id = grind (arith)

stands_after : (w : World) (id : ℕ) (k : Connection) (used : ℕ) (closes : Bool)
    → map.get (with_finished w id k used closes).connections id ≡ Some (finished k used closes)
stands_after w id k used closes =
    map.get-insert nat_cmp_total w.connections id (finished k used closes) id
    ∙ ap (λ t. cond t (Some (finished k used closes)) (map.get w.connections id)) (unsigned_tied id id ∙ itself id)

fewer : (unread : List ℕ) (used : ℕ) (closes : Bool) → 1 ≤ used → used ≤ length unread
    → length (if closes then [] else drop used unread) < length unread
fewer unread used true some all = omega arith
fewer unread used false some all = omega (arith, length-drop used unread)

-- what a step that sends a reply leaves of a connection with n unread bytes
abbrev pub Left : ℕ → World → ℕ → Type 0
Left n v id = (unread_len v id < n) × IsMade v id

left_after : (w : World) (id : ℕ) (k : Connection) (used : ℕ) (closes : Bool) → length (finished k used closes).unread < length k.unread
    → Left (length k.unread) (with_finished w id k used closes) id
left_after w id k used closes less =
    let stands = stands_after w id k used closes in
    (subst (λ o. unread_of o < length k.unread) (sym stands) less, (finished k used closes, stands))

no_error : {X E : Type 0} (x : X) (e : E) → Ok x ≡ Err e → ⊥
no_error x e is = subst T (ap is_ok is) tt

module _ (render : Renders) (w v : World) (id : ℕ) where
  abbrev Said : World × Result Step StepError → Type 0
  Said p = Sends (stepping p.1)

  by_front : (said : Step) (k : Connection) (next : Front) → IsNext k.unread next → stepped_by render w id k next ≡ (v, Ok said)
      → Sends (stepping (Ok said)) → Left (length k.unread) v id
  by_front said k nexts.More found is sends = absurd (subst Said (sym is) sends)
  by_front said k (nexts.Fault code bare) found is sends =
      subst (λ (p : World × Result Step StepError). Left (length k.unread) p.0 id) is
      (left_after w id k 0 true (fault_has_bytes k.unread code bare found))
  by_front said k (nexts.Request used request) found is sends =
      let a = answer_in render w request in
      let takes = takes_bytes k.unread used request found in
      subst (λ (p : World × Result Step StepError). Left (length k.unread) p.0 id) is
      (left_after (world_after w request a) id k used a.closes (fewer k.unread used a.closes takes.0 takes.1))

  by_closed : (said : Step) (k : Connection) (closed : Bool)
      → MatchBool closed (Stays w (Ok steps.Closed) v (Ok said)) (Answers render w id v (Ok said) k) → Sends (stepping (Ok said))
      → Left (length k.unread) v id
  by_closed said k true (same, is) sends = absurd (subst (λ (r : Result Step StepError). Sends (stepping r)) is sends)
  by_closed said k false (next, found, is) sends = by_front said k next found is sends

  by_option : (said : Step) (k : Option Connection) → StepsAt render w id v (Ok said) k → Sends (stepping (Ok said))
      → Left (unread_of k) v id
  by_option said None (same, is) sends = absurd (no_error said step_errors.NoConnection is)
  by_option said (Some k) h sends = by_closed said k k.closed h sends

  -- a step that sends a reply takes unread bytes, and the connection still stands
  pub reply_takes : (outcome : Outcome) → Leaves render w (step_on (record { 0 = id })) v outcome → Sends outcome
      → Left (unread_len w id) v id
  reply_takes outcome (Err e, h, is) sends = absurd (subst Sends is sends)
  reply_takes outcome (Ok said, h, is) sends = by_option said (map.get w.connections id) h (subst Sends is sends)

  front_answers : (k : Connection) (next : Front) (e : StepError) → stepped_by render w id k next ≡ (v, Err e) → ⊥
  front_answers k nexts.More e is = no_error _ e (ap (λ (p : World × Result Step StepError). p.1) is)
  front_answers k (nexts.Fault code bare) e is = no_error _ e (ap (λ (p : World × Result Step StepError). p.1) is)
  front_answers k (nexts.Request used request) e is = no_error _ e (ap (λ (p : World × Result Step StepError). p.1) is)

  missing_closed : (k : Connection) (closed : Bool)
      → MatchBool closed (Stays w (Ok steps.Closed) v (Err step_errors.NoConnection))
      (Answers render w id v (Err step_errors.NoConnection) k) → ⊥
  missing_closed k true (same, is) = no_error steps.Closed step_errors.NoConnection (sym is)
  missing_closed k false (next, found, is) = front_answers k next step_errors.NoConnection is

  -- a connection that was made is not missing
  pub not_missing : IsMade w id → Happens render w (step_on (record { 0 = id })) v (Err step_errors.NoConnection) → ⊥
  not_missing (k, is) h = missing_closed k k.closed (subst (StepsAt render w id v (Err step_errors.NoConnection)) is h)

  memory_closed : (k : Connection) (closed : Bool)
      → MatchBool closed (Stays w (Ok steps.Closed) v (Err step_errors.Memory)) (Answers render w id v (Err step_errors.Memory) k) → v ≡ w
  memory_closed k true (same, is) = same
  memory_closed k false (same, stands) = same

  memory_option : (k : Option Connection) → StepsAt render w id v (Err step_errors.Memory) k → v ≡ w
  memory_option None (same, is) = same
  memory_option (Some k) h = memory_closed k k.closed h

  -- a step that memory stopped leaves the world
  pub memory_leaves : Happens render w (step_on (record { 0 = id })) v (Err step_errors.Memory) → v ≡ w
  memory_leaves h = memory_option (map.get w.connections id) h
