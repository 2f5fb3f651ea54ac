-- Taking in: a read, and the steps behind it.
use Rattle.std.proofs.Common.{◌≡◌, ◌∙◌, ◌++◌, ℕ, List, Bool, true, false, inl, inr, refl}
use Rattle.std.specs.Prelude.{Option}
use Rattle.doc_hub.specs.Replies.{Renders}
use Rattle.doc_hub.specs.Runs.{Happened}
use Rattle.doc_hub.specs.Worlds.{World}
use Rattle.doc_server_listen.specs.Costs.{IsWithin, Left}
use Rattle.doc_server_listen.proofs.CostSteps.{within_join, within_none, within_quiet}
use Rattle.doc_server_turns.specs.Hearing.{Hears, IsReader, Waits, WasHeard}
use Rattle.doc_server_turns.specs.Servings.{Serves}
use Rattle.doc_server_turns.specs.Visits.{IsEither}
use Rattle.doc_server_turns.specs.Wirings.{Peer}
use Rattle.doc_server_turns.proofs.AnswerSteps.{AnswersSharing}
use Rattle.doc_server_turns.proofs.Hearing.{heard_on, hears_itself}
use Rattle.doc_server_turns.proofs.ReadSteps.{ServesQuietly}
use Rattle.doc_server_turns.proofs.ServingSteps.{answers_serve, serves_join, serves_nothing}
use Rattle.doc_server_turns.proofs.Visits.{either_none, either_read, either_stepped}
use Rattle.doc_server_turns.proofs.Wiring.{not_both}

abbrev pub ServesSharing : Renders → World → World → ℕ → Option (List ℕ) → Option (List ℕ) → Type 0 → Peer → Peer → Left → Left → Bool
    → Type 0
ServesSharing render w v id c d ended p q l m follows =
    (s : Serves render w v id c d ended p q) × IsWithin s.run l m × Hears id s.run p q × (IsReader p → WasHeard id s.run q)
    × (follows ≡ true → IsEither id s.run)

-- nothing is done
pub not_taken : (render : Renders) (w : World) (id : ℕ) (c : Option (List ℕ)) (ended : Type 0) (p : Peer) (l : Left) (follows : Bool)
    → (IsReader p → ⊥) → ServesSharing render w w id c c ended p p l l follows
not_taken render w id c ended p l follows idle = (
  serves_nothing render w id c c ended p p refl refl refl,
  within_none l,
  hears_itself id p,
  λ is. absurd (idle is),
  λ is. either_none id,
)

hears_awake : (id : ℕ) (run : List Happened) (p q : Peer) → p.rests ≡ false → p.is_over ≡ false → (IsReader p → WasHeard id run q)
    → Hears id run p q
hears_awake id run p q awake stands heard = record {
  resting = λ rests. absurd (not_both p.rests rests awake);
  reading = λ is. inr (heard is);
  waits = λ w. absurd (by w);
}
  where
    by : Waits p → ⊥
    by (inl rests) = not_both p.rests rests awake
    by (inr over) = not_both p.is_over over stands

-- a read takes nothing of the share
pub quiet_takes : (render : Renders) (w v : World) (id : ℕ) (c d : Option (List ℕ)) (ended : Type 0) (p q : Peer) (l : Left)
    (follows : Bool)
    → p.rests ≡ false → p.is_over ≡ false → q.pending ≡ p.pending → ServesQuietly render w v id c d ended p q
    → ServesSharing render w v id c d ended p q l l follows
quiet_takes render w v id c d ended p q l follows awake stands pending (s, quiets, heard) = (
  s,
  within_quiet s.run l quiets,
  hears_awake id s.run p q awake stands (λ is. heard is.0),
  λ is. heard is.0,
  λ is. either_read render w v id c d ended p q s pending,
)

-- who doesn't read is stepped alone
pub answers_alone : (render : Renders) (w v : World) (id : ℕ) (c : Option (List ℕ)) (ended : Type 0) (p q : Peer) (l m : Left)
    (follows : Bool) → p.is_open ≡ true → p.rests ≡ false → p.is_over ≡ false → (p.reads ≡ true → ⊥)
    → AnswersSharing render w v id p q l m → ServesSharing render w v id c c ended p q l m follows
answers_alone render w v id c ended p q l m follows opened awake stands steps (a, within) =
    let on : IsReader p → WasHeard id a.run q = λ is. absurd (steps is.0) in (
      answers_serve render w v id c ended p q opened a,
      within,
      hears_awake id a.run p q awake stands on,
      on,
      λ is. either_stepped render w v id p q a,
    )

pub then_answers : (render page : Renders) (w v u : World) (id : ℕ) (c d : Option (List ℕ)) (ended : Type 0) (p q r : Peer) (l m : Left)
    (follows : Bool) → follows ≡ false → page ≡ render → q.is_open ≡ true → p.rests ≡ false → p.is_over ≡ false
    → ServesQuietly render w v id c d ended p q → AnswersSharing page v u id q r l m
    → ServesSharing render w u id c d ended p r l m follows
then_answers render page w v u id c d ended p q r l m follows leads same opened awake stands (s, quiets, heard) (a, within) =
    let on : IsReader p → WasHeard id (s.run ++ a.run) r =
    λ is. heard_on id s.run a.run q r (heard is.0) (λ rests. inl (a.rests ∙ rests)) in (
      serves_join render page w v u id c d d ended ended p q r same (λ e. e) s (answers_serve page v u id d ended q r opened a),
      within_join s.run a.run l l m (within_quiet s.run l quiets) within,
      hears_awake id (s.run ++ a.run) p r awake stands on,
      on,
      λ is. absurd (not_both follows is leads),
    )
