-- What a push, a step and a disconnect do to their own connection.
use Rattle.std.proofs.Common.{◌≡◌, ◌<◌, ◌≤◌, ◌+◌, ℕ, List, ◌++◌, Bool, true, false, cond, T, length, drop, refl, sym, ap, ◌∙◌, subst}
use Rattle.std.proofs.Common.{arith, length-drop, ◌==◌}
use Rattle.std.specs.Prelude.{Option, Some, None, Result, Ok, Err, is_ok, nat_lt, MatchBool, if◌then◌else◌, ⊤}
use Rattle.std.specs.FinMap as map
use Rattle.std.specs.Cmp.{unsigned_tied}
use Rattle.std.proofs.lemmas.Cmp.{nat_cmp_total}
use Rattle.doc_page_parts.specs.Refusals.{IsAnswer}
use Rattle.doc_http.specs.declared.request.Next.{Next as Front}
use Rattle.doc_http.specs.declared.request.Next.TheVariants as nexts
use Rattle.doc_http.specs.Requests.{IsNext}
use Rattle.doc_http.proofs.TakenLemmas.{takes_bytes}
use Rattle.doc_hub.specs.Connections.{Connections, backlog_limit, pushed_at, with_pushed}
use Rattle.doc_hub.specs.Replies.{Renders}
use Rattle.doc_hub.specs.Runs.{Happens}
use Rattle.doc_hub.specs.StepLaws.{connection}
use Rattle.doc_hub.specs.Worlds.{World, answer_in, world_after, with_finished, stepped_by, step_said, Stays, Answers, StepsAt}
use Rattle.doc_hub.specs.declared.connection.Connection.{Connection}
use Rattle.doc_hub_events.specs.declared.event.ConnId.{ConnId}
use Rattle.doc_hub_events.specs.Events.{disconnect_on, push_on, step_on}
use Rattle.doc_hub_events.specs.declared.event.Step.{Step}
use Rattle.doc_hub_events.specs.declared.event.Step.TheVariants as steps
use Rattle.doc_hub_events.specs.declared.refusal.PushError.{PushError}
use Rattle.doc_hub_events.specs.declared.refusal.PushError.TheVariants as push_errors
use Rattle.doc_hub_events.specs.declared.refusal.StepError.{StepError}
use Rattle.doc_hub_events.specs.declared.refusal.StepError.TheVariants as step_errors
use Rattle.doc_server_rounds.specs.Served.{IsShut, IsShutAs, unread_len, unread_of}

itself : (n : ℕ) → (n == n) ≡ true
itself n = grind (arith)

no_error : {X E : Type 0} (x : X) (e : E) → ◌≡◌ {A = Result X E} (Ok x) (Err e) → ⊥
no_error x e is = subst T (ap is_ok is) tt

is_set : (m : Connections) (n : ℕ) (k : Connection) → map.get (map.insert m n k) n ≡ Some k
is_set m n k = map.get-insert nat_cmp_total m n k n
    ∙ ap (λ t. cond t (Some k) (map.get m n)) (unsigned_tied n n ∙ itself n)

-- an open connection isn't shut
open_is_not : (k : Option Connection) (c : Connection) → k ≡ Some c → c.closed ≡ false → IsShutAs k → ⊥
open_is_not k c is opened shut =
    let closed : c.closed ≡ true = subst IsShutAs is shut in
    subst T (sym closed ∙ opened) tt

-- ---- a push

-- what a push of these bytes gives, by its two tests
abbrev onto_by : Connection → List ℕ → Bool → Bool → Connection × Result (Unit {0}) PushError
onto_by c bytes shut full =
    if shut then (c, Err push_errors.Closed)
    else (if full then (c, Err push_errors.Backlog) else (record { unread = c.unread ++ bytes; closed = false }, Ok tt))

abbrev is_full : Connection → List ℕ → Bool
is_full c bytes = nat_lt backlog_limit (length c.unread + length bytes)

module _ (cs : Connections) (n : ℕ) (bytes : List ℕ) where
  -- ---- a push that was refused for no want of room

  refused_by : (c : Connection) (e : PushError) (shut full : Bool) → (e ≡ push_errors.Memory → ⊥) → (e ≡ push_errors.Backlog → ⊥)
      → IsAnswer push_errors.Memory (with_pushed cs n (onto_by c bytes shut full).0 (onto_by c bytes shut full).1).1 (Err e)
      → shut ≡ true
  refused_by c e true full other more is = refl
  refused_by c e false true other more is = absurd (more is)
  refused_by c e false false other more is = absurd (other is)

  refused_at : (k : Option Connection) (e : PushError) → (e ≡ push_errors.Memory → ⊥) → (e ≡ push_errors.Backlog → ⊥)
      → IsAnswer push_errors.Memory (pushed_at cs n bytes k).1 (Err e) → IsShutAs k
  refused_at None e other more is = tt
  refused_at (Some c) e other more is = refused_by c e c.closed (is_full c bytes) other more is

  -- ---- a push that was accepted

  abbrev IsOpenIn : Connections × Result (Unit {0}) PushError → Type 0
  IsOpenIn r = IsShutAs (map.get r.0 n) → ⊥

  accepted_by : (c : Connection) (shut full : Bool)
      → (with_pushed cs n (onto_by c bytes shut full).0 (onto_by c bytes shut full).1).1 ≡ Ok tt
      → IsOpenIn (with_pushed cs n (onto_by c bytes shut full).0 (onto_by c bytes shut full).1)
  accepted_by c true full is = absurd (no_error tt push_errors.Closed (sym is))
  accepted_by c false true is = absurd (no_error tt push_errors.Backlog (sym is))
  accepted_by c false false is =
      open_is_not _ (record { unread = c.unread ++ bytes; closed = false }) (is_set cs n (record {
        unread = c.unread
            ++ bytes;
        closed = false;
      })) refl

  accepted_at : (k : Option Connection) → (pushed_at cs n bytes k).1 ≡ Ok tt → IsOpenIn (pushed_at cs n bytes k)
  accepted_at None is = absurd (no_error tt push_errors.NoConnection (sym is))
  accepted_at (Some c) is = accepted_by c c.closed (is_full c bytes) is

module _ (render : Renders) (w v : World) (id : ConnId) where
  pub push_refused : (bytes : List ℕ) (e : PushError) → Happens render w (push_on id bytes) v (Err e) → v ≡ w
  push_refused bytes e h = h.1

  pub push_finds_shut : (bytes : List ℕ) (e : PushError) → (e ≡ push_errors.Memory → ⊥) → (e ≡ push_errors.Backlog → ⊥)
      → Happens render w (push_on id bytes) v (Err e) → IsShut w id.0
  push_finds_shut bytes e other more h = refused_at w.connections id.0 bytes (connection id.0 w) e other more h.0

  pub push_leaves_open : (bytes : List ℕ) → Happens render w (push_on id bytes) v (Ok tt) → IsShut v id.0 → ⊥
  push_leaves_open bytes h =
      let one : World × Result (Unit {0}) PushError → Type 0 = λ r. IsShut r.0 id.0 → ⊥ in
      subst one h (accepted_at w.connections id.0 bytes (connection id.0 w)
      (ap (λ (r : World × Result (Unit {0}) PushError). r.1) h))

  -- ---- a disconnect

  pub disconnect_drops : (said : Bool) → Happens render w (disconnect_on id) v said → connection id.0 v ≡ None
  disconnect_drops said h =
      subst (λ (r : World × Bool). connection id.0 r.0 ≡ None) h
      (map.get-remove nat_cmp_total w.connections id.0 id.0
      ∙ ap (λ t. cond t None (connection id.0 w)) (unsigned_tied id.0 id.0 ∙ itself id.0))

-- ---- a step

abbrev NoFault : Front → Type 0
NoFault nexts.More = ⊤
NoFault (nexts.Fault code bare) = ⊥
NoFault (nexts.Request used request) = ⊤

-- what a step that sends a reply leaves of a connection with n unread bytes
abbrev IsLess : ℕ → World → ℕ → Type 0
IsLess n v id = (unread_len v id < n) × (IsShut v id → ⊥)

abbrev IsSentStep : Result Step StepError → Type 0
IsSentStep (Ok (steps.Sent bytes)) = ⊤
IsSentStep other = ⊥

module _ (render : Renders) (w v : World) (id : ConnId) where
  abbrev Gave : World × Result Step StepError → Type 0
  Gave p = IsSentStep p.1

  by_said : (k : Connection) (used : ℕ) (bytes : List ℕ) (closes : Bool) (u : World) → 1 ≤ used → used ≤ length k.unread
      → IsSentStep (Ok (step_said closes bytes)) → IsLess (length k.unread) (with_finished u id.0 k used closes) id.0
  by_said k used bytes true u some all sent = absurd sent
  by_said k used bytes false u some all sent =
      let c : Connection = record { unread = drop used k.unread; closed = false } in
      let stands = is_set u.connections id.0 c in (
        subst (λ o. unread_of o < length k.unread) (sym stands) (omega (arith, length-drop used k.unread)),
        open_is_not _ c stands refl,
      )

  by_front : (bytes : List ℕ) (k : Connection) (next : Front) → IsNext k.unread next
      → ◌≡◌ {A = World × Result Step StepError} (stepped_by render w id.0 k next) (v, Ok (steps.Sent bytes))
      → IsLess (length k.unread) v id.0
  by_front bytes k nexts.More found is = absurd (subst Gave (sym is) tt)
  by_front bytes k (nexts.Fault code bare) found is = absurd (subst Gave (sym is) tt)
  by_front bytes k (nexts.Request used request) found is =
      let a = answer_in render w request in
      let takes = takes_bytes k.unread used request found in
      subst (λ (p : World × Result Step StepError). IsLess (length k.unread) p.0 id.0) is
      (by_said k used a.bytes a.closes (world_after w request a) takes.0 takes.1 (subst Gave (sym is) tt))

  by_closed : (bytes : List ℕ) (k : Connection) (shut : Bool)
      → MatchBool shut (Stays w (Ok steps.Closed) v (Ok (steps.Sent bytes))) (Answers render w id.0 v (Ok (steps.Sent bytes)) k)
      → IsLess (length k.unread) v id.0
  by_closed bytes k true (same, is) = absurd (subst IsSentStep is tt)
  by_closed bytes k false (next, found, is) = by_front bytes k next found is

  by_option : (bytes : List ℕ) (k : Option Connection) → StepsAt render w id.0 v (Ok (steps.Sent bytes)) k
      → IsLess (unread_of k) v id.0
  by_option bytes None (same, is) = absurd (subst IsSentStep is tt)
  by_option bytes (Some k) h = by_closed bytes k k.closed h

  -- a step that sends a reply takes unread bytes, and the connection stays open
  pub reply_takes : (bytes : List ℕ) → Happens render w (step_on id) v (Ok (steps.Sent bytes))
      → (unread_len v id.0 < unread_len w id.0) × (IsShut v id.0 → ⊥)
  reply_takes bytes h = by_option bytes (connection id.0 w) h

  -- ---- a step that sends nothing

  abbrev IsMore : Result Step StepError → Type 0
  IsMore (Ok steps.More) = ⊤
  IsMore other = ⊥

  more_front : (k : Connection) (next : Front)
      → ◌≡◌ {A = World × Result Step StepError} (stepped_by render w id.0 k next) (v, Ok steps.More) → v ≡ w
  more_front k nexts.More is = sym (ap (λ (p : World × Result Step StepError). p.0) is)
  more_front k (nexts.Fault code bare) is =
      absurd (subst (λ (p : World × Result Step StepError). IsMore p.1) (sym is) tt)
  more_front k (nexts.Request used request) is =
      let a = answer_in render w request in
      absurd (said_more a.closes a.bytes (subst (λ (p : World × Result Step StepError). IsMore p.1) (sym is) tt))
    where
      said_more : (closes : Bool) (bytes : List ℕ) → IsMore (Ok (step_said closes bytes)) → ⊥
      said_more true bytes is = is
      said_more false bytes is = is

  more_closed : (k : Connection) (shut : Bool)
      → MatchBool shut (Stays w (Ok steps.Closed) v (Ok steps.More)) (Answers render w id.0 v (Ok steps.More) k) → v ≡ w
  more_closed k true (same, is) = same
  more_closed k false (next, found, is) = more_front k next is

  more_option : (k : Option Connection) → StepsAt render w id.0 v (Ok steps.More) k → v ≡ w
  more_option None (same, is) = same
  more_option (Some k) h = more_closed k k.closed h

  pub more_leaves : Happens render w (step_on id) v (Ok steps.More) → v ≡ w
  more_leaves h = more_option (connection id.0 w) h

  memory_closed : (k : Connection) (shut : Bool)
      → MatchBool shut (Stays w (Ok steps.Closed) v (Err step_errors.Memory)) (Answers render w id.0 v (Err step_errors.Memory) k)
      → v ≡ w
  memory_closed k true (same, is) = same
  memory_closed k false (same, stands) = same

  memory_option : (k : Option Connection) → StepsAt render w id.0 v (Err step_errors.Memory) k → v ≡ w
  memory_option None (same, is) = same
  memory_option (Some k) h = memory_closed k k.closed h

  pub memory_leaves : Happens render w (step_on id) v (Err step_errors.Memory) → v ≡ w
  memory_leaves h = memory_option (connection id.0 w) h

  -- ---- a step of no open connection

  abbrev IsClosedStep : Result Step StepError → Type 0
  IsClosedStep (Ok steps.Closed) = ⊤
  IsClosedStep (Err step_errors.NoConnection) = ⊤
  IsClosedStep other = ⊥

  said_closed : (closes : Bool) (bytes : List ℕ) → IsClosedStep (Ok (step_said closes bytes)) → ⊥
  said_closed true bytes is = is
  said_closed false bytes is = is

  front_not_closed : (k : Connection) (next : Front) (r : Result Step StepError)
      → ◌≡◌ {A = World × Result Step StepError} (stepped_by render w id.0 k next) (v, r) → IsClosedStep r → ⊥
  front_not_closed k nexts.More r is said = subst (λ (p : World × Result Step StepError). IsClosedStep p.1) (sym is) said
  front_not_closed k (nexts.Fault code bare) r is said =
      subst (λ (p : World × Result Step StepError). IsClosedStep p.1) (sym is) said
  front_not_closed k (nexts.Request used request) r is said =
      let a = answer_in render w request in
      said_closed a.closes a.bytes (subst (λ (p : World × Result Step StepError). IsClosedStep p.1) (sym is) said)

  answers_not_closed : (k : Connection) (r : Result Step StepError) → Answers render w id.0 v r k → IsClosedStep r → ⊥
  answers_not_closed k (Ok said) (next, found, is) shut = front_not_closed k next (Ok said) is shut
  answers_not_closed k (Err step_errors.NoConnection) (next, found, is) shut =
      front_not_closed k next (Err step_errors.NoConnection) is shut
  answers_not_closed k (Err step_errors.Memory) h shut = shut

  shut_closed : (k : Connection) (shut : Bool) (r : Result Step StepError)
      → MatchBool shut (Stays w (Ok steps.Closed) v r) (Answers render w id.0 v r k) → IsClosedStep r → shut ≡ true
  shut_closed k true r h said = refl
  shut_closed k false r h said = absurd (answers_not_closed k r h said)

  shut_option : (k : Option Connection) (r : Result Step StepError) → StepsAt render w id.0 v r k → IsClosedStep r → IsShutAs k
  shut_option None r h said = tt
  shut_option (Some k) r h said = shut_closed k k.closed r h said

  pub step_finds_closed : Happens render w (step_on id) v (Ok steps.Closed) → IsShut w id.0
  step_finds_closed h = shut_option (connection id.0 w) (Ok steps.Closed) h tt

  pub step_finds_none : Happens render w (step_on id) v (Err step_errors.NoConnection) → IsShut w id.0
  step_finds_none h = shut_option (connection id.0 w) (Err step_errors.NoConnection) h tt
