-- The pass over the runs of the code: its start, a run closed, a run passed, and its end.
use Rattle.std.proofs.Common.{◌≡◌, ℕ, zero, suc, ◌-◌, ◌<◌, ◌≤◌, false, List, [], ◌∷◌, ◌++◌, length, get_or, drop, replicate, refl, ap, sym}
use Rattle.std.proofs.Common.{◌∙◌, subst, None, arith}
use Rattle.std.specs.Prelude.{flat_map, chars}
use Rattle.std.proofs.lemmas.List.{length-map}
use Rattle.doc_rules.specs.Inlines.{Inline}
use Rattle.doc_rules.specs.Inlines as rules
use Rattle.doc_inlines_emphasis.specs.OnePass.{passed}
use Rattle.doc_inlines_emphasis.specs.Marks.{ArePlaced, ArePlain, IsFinal, stretch, seen}
use Rattle.doc_inlines_emphasis.specs.Openers.{NearestIs}
use Rattle.doc_inlines_emphasis.specs.NumberSteps.{numbered, run_numbered, stack_of, joined_openers}
use Rattle.doc_inlines_emphasis.proofs.BoundLaws.{reach_first}
use Rattle.doc_inlines_emphasis.proofs.Stretches.{placed_order}
use Rattle.doc_inlines_emphasis.specs.PassSteps.{Stands, outcome, ClosesAt, Stacked, WalksAt}
use Rattle.doc_inlines_emphasis.proofs.NumberLoops.{starts_at, stacked_first, comes_at, emptied_at, failed_at, not_closing_at}
use Rattle.doc_inlines_emphasis.proofs.Growing.{stretch_all}
use Rattle.doc_inlines_emphasis.proofs.Finals.{AreFinal, final_marks, final_plain, final_emphasis}
use Rattle.doc_inlines_marks.specs.declared.mark_ref.MarkRef.{MarkRef}
use Rattle.doc_inlines_marks.specs.declared.mark_ref.MarkRef.TheVariants.{Text, Code, Soft, Hard, Raw, Reference, Start, End}
use Rattle.doc_inlines_marks.specs.Views.{inlines_in, inlines_shown}
use Rattle.doc_inlines_emphasis.specs.declared.run.Run.{Run}
use Rattle.doc_inlines_emphasis.specs.RunSteps.{all_placed}
use Rattle.doc_inlines_emphasis.specs.Steps.{Keeps, StandAt, GoesOn, GoesPast, WalksOn, IsWrapped}
use Rattle.doc_inlines_emphasis.specs.Views.{marks_shown}
use Rattle.doc_inlines_emphasis.proofs.NumberLaws.{run_is, as_many}
use Rattle.doc_inlines_emphasis.proofs.KeepLaws.{keeps_all, keeps_on}

-- ---- marks are final

literals_final : (text : List ℕ) → IsFinal (rules.literals text)
literals_final [] = tt
literals_final (c ∷ text) = literals_final text

pub mark_is_final : (mark : MarkRef) → IsFinal (inlines_in mark)
unfolding inlines_in
mark_is_final (Text text) = literals_final (chars text.now)
mark_is_final (Code text) = tt
mark_is_final Soft = tt
mark_is_final Hard = tt
mark_is_final (Raw text) = tt
mark_is_final (Reference reference) = tt
mark_is_final (Start span) = tt
mark_is_final (End span) = tt

pub are_final : (marks : List MarkRef) → AreFinal (marks_shown marks)
are_final marks = final_marks inlines_in mark_is_final marks

pub are_plain : (marks : List MarkRef) → ArePlain (marks_shown marks)
are_plain marks = final_plain (marks_shown marks) (are_final marks)

-- ---- a run is closed as often as it has an opener

pub goes_first : (marks : List MarkRef) (runs : List Run) (openers : List ℕ) (number : ℕ)
    → GoesOn marks marks runs runs openers openers number
goes_first marks runs openers number a b goal fits h = (h, keeps_all a marks)

pub goes_more : (marks next last : List MarkRef) (runs left fewer : List Run) (openers kept few : List ℕ) (number : ℕ)
    → length next ≡ length marks → GoesOn marks next runs left openers kept number →
    GoesOn next last left fewer kept few number → GoesOn marks last runs fewer openers few number
goes_more marks next last runs left fewer openers kept few number long h g a b goal fits k =
    let first : ClosesAt (marks_shown next) a b (all_placed left) kept number goal × Keeps a marks next = h a b goal fits k in
    let then_ : ClosesAt (marks_shown last) a b (all_placed fewer) few number goal × Keeps a next last = g a b goal (omega arith) first.0 in
    (then_.0, keeps_on a marks next last first.1 then_.1)

-- as many marks are there
pub goes_long : (marks next : List MarkRef) (runs left : List Run) (openers kept : List ℕ) (number : ℕ) → StandAt marks runs openers number
    → GoesOn marks next runs left openers kept number → length next ≡ length marks
goes_long marks next runs left openers kept number s g =
    (g 0 (length marks) (outcome (marks_shown marks) 0 (length marks) (stack_of (all_placed runs) openers)
    (numbered (all_placed runs) number) (drop (suc number) (all_placed runs))) (omega arith)
    (record { stands = s; makes = refl })).1.size

pub past_emptied : (marks next : List MarkRef) (runs left : List Run) (openers kept : List ℕ) (number : ℕ)
    → GoesOn marks next runs left openers kept number → (run_numbered (all_placed left) number).left ≡ 0 →
    GoesPast marks next runs left openers kept number
past_emptied marks next runs left openers kept number g e a b goal fits h =
    let k : ClosesAt (marks_shown next) a b (all_placed left) kept number goal × Keeps a marks next = g a b goal fits h in
    (emptied_at (marks_shown next) a b (all_placed left) kept number goal k.0 e, k.1)

pub past_failed : (marks next : List MarkRef) (runs left : List Run) (openers kept : List ℕ) (number : ℕ)
    → GoesOn marks next runs left openers kept number →
    NearestIs (run_numbered (all_placed left)) kept (run_numbered (all_placed left) number) None
    → GoesPast marks next runs left openers kept number
past_failed marks next runs left openers kept number g e a b goal fits h =
    let k : ClosesAt (marks_shown next) a b (all_placed left) kept number goal × Keeps a marks next = g a b goal fits h in
    (failed_at (marks_shown next) a b (all_placed left) kept number goal k.0 e, k.1)

pub past_not_closing : (marks : List MarkRef) (runs : List Run) (openers : List ℕ) (number : ℕ) (d : Run) → number < length runs
    → (get_or runs number d).closes ≡ false →
    GoesPast marks marks runs runs openers openers number
past_not_closing marks runs openers number d size e a b goal fits h = (
  not_closing_at (marks_shown marks) a b (all_placed runs) openers number goal h
      (ap (λ (r : rules.Run). r.closes) (run_is runs number d size) ∙ e),
  keeps_all a marks,
)

-- ---- the runs in turn

pub walks_start : (marks : List MarkRef) (runs : List Run) → WalksOn marks marks runs runs [] 0
walks_start marks runs a h = (starts_at (marks_shown marks) a (length marks) (all_placed runs) 0 (are_plain marks) h, keeps_all a marks)

pub stacked_start : (runs : List Run) → Stacked (all_placed runs) [] (replicate 14 0) 0
stacked_start runs = stacked_first (all_placed runs) (replicate 14 0) 0 (reach_first 14 0)

pub walks_long : (marks next : List MarkRef) (runs left : List Run) (openers : List ℕ) (number : ℕ)
    → ArePlaced (marks_shown marks) 0 (length marks) (all_placed runs) →
    WalksOn marks next runs left openers number → length next ≡ length marks
walks_long marks next runs left openers number p w = (w 0 p).1.size

-- a run comes
pub walks_stand : (marks next : List MarkRef) (runs left : List Run) (openers : List ℕ) (number : ℕ)
    → ArePlaced (marks_shown marks) 0 (length marks) (all_placed runs) →
    WalksOn marks next runs left openers number → number < length left → StandAt next left openers number
walks_stand marks next runs left openers number p w size =
    let k : WalksAt (marks_shown next) 0 (length marks) (all_placed left) openers number
    (passed [] (seen (marks_shown marks) 0 (length marks) (all_placed runs))) × Keeps 0 marks next = w 0 p in
    subst (λ b. Stands (marks_shown next) 0 b (stack_of (all_placed left) openers) (numbered (all_placed left) number)
    (drop (suc number) (all_placed left))) (sym k.1.size)
    (comes_at (marks_shown next) 0 (length marks) (all_placed left) openers number
    (passed [] (seen (marks_shown marks) 0 (length marks) (all_placed runs))) k.0
    (subst (λ m. number < m) (sym (as_many left)) size)).stands

-- and is passed
pub walks_past : (marks next last : List MarkRef) (runs left fewer : List Run) (openers kept : List ℕ) (number : ℕ)
    → ArePlaced (marks_shown marks) 0 (length marks) (all_placed runs) →
    WalksOn marks next runs left openers number → number < length left → GoesPast next last left fewer openers kept number →
    WalksOn marks last runs fewer (joined_openers (all_placed fewer) kept number) (suc number)
walks_past marks next last runs left fewer openers kept number p w size g a h =
    let goal : List Inline = passed [] (seen (marks_shown marks) a (length marks) (all_placed runs)) in
    let k : WalksAt (marks_shown next) a (length marks) (all_placed left) openers number goal × Keeps a marks next = w a h in
    let long : length next ≡ length marks = k.1.size in
    let l : WalksAt (marks_shown last) a (length marks) (all_placed fewer) (joined_openers (all_placed fewer) kept number) (suc number)
    goal × Keeps a next last =
    g a (length marks) goal (omega arith)
    (comes_at (marks_shown next) a (length marks) (all_placed left) openers number goal k.0
    (subst (λ m. number < m) (sym (as_many left)) size)) in
    (l.0, keeps_on a marks next last k.1 l.1)

-- ---- the end

pub shown_from : (marks : List MarkRef) (place : ℕ) → flat_map (λ (mark : List Inline). mark) (drop place (marks_shown marks))
    ≡ inlines_shown (drop place marks)
shown_from [] zero = refl
shown_from [] (suc n) = refl
shown_from (x ∷ xs) zero = ap (λ t. inlines_in x ++ t) (shown_from xs zero)
shown_from (x ∷ xs) (suc n) = shown_from xs n

pub wrapped_all : (marks next : List MarkRef) (runs left : List Run) (openers : List ℕ) (number : ℕ)
    → WalksOn marks next runs left openers number → length left ≤ number →
    (place : ℕ) → ArePlaced (marks_shown marks) place (length marks) (all_placed runs) → IsWrapped place marks next runs
wrapped_all marks next runs left openers number w size place h =
    let fits : place ≤ length marks = placed_order (marks_shown marks) place (length marks) (all_placed runs) h in
    let k : WalksAt (marks_shown next) place (length marks) (all_placed left) openers number
    (passed [] (seen (marks_shown marks) place (length marks) (all_placed runs))) × Keeps place marks next = w place h in
    let long : length (marks_shown next) ≡ length marks = length-map next inlines_in ∙ k.1.size in
    record {
      emphasis =
          sym (shown_from next place)
          ∙ (sym (stretch_all (marks_shown next) place (omega arith))
          ∙ (ap (λ n. stretch (marks_shown next) place (n - place)) long
          ∙ final_emphasis (marks_shown marks) (marks_shown next) place (length marks) (all_placed runs) (all_placed left) openers number
          (are_final next) k.0 (subst (λ m. m ≤ number) (sym (as_many left)) size)));
      keeps = k.1;
    }
