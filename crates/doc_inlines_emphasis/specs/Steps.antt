-- Words for the steps of the proof: what a change of marks keeps, and what holds of the code's values at a run.
use Rattle.std.specs.Prelude.{◌≡◌, ℕ, suc, ◌≤◌, List, [], length, take, drop}
use Rattle.doc_rules.specs.Characters as rules
use Rattle.doc_rules.specs.Inlines.{Inline}
use Rattle.doc_rules.specs.Emphasis.{emphasis_of}
use Rattle.doc_inlines_emphasis.specs.OnePass.{passed}
use Rattle.doc_inlines_emphasis.specs.Marks.{ArePlaced, seen}
use Rattle.doc_inlines_emphasis.specs.NumberSteps.{numbered, stack_of, joined_openers}
use Rattle.doc_inlines_emphasis.specs.PassSteps.{Stands, ClosesAt, WalksAt}
use Rattle.doc_inlines_marks.specs.declared.mark_ref.MarkRef.{MarkRef}
use Rattle.doc_inlines_marks.specs.Slices.{AreSlices, AreCut}
use Rattle.doc_inlines_marks.specs.Views.{inlines_shown}
use Rattle.doc_inlines_emphasis.specs.declared.run.Run.{Run}
use Rattle.doc_inlines_emphasis.specs.RunSteps.{all_placed}
use Rattle.doc_inlines_emphasis.specs.Views.{marks_shown}

-- as many marks as before, the same ones up to a place, and their texts stand and are cut as before
pub record Keeps (place : ℕ) (marks next : List MarkRef) : Type 0 where
  pub size : length next ≡ length marks
  pub front : take place next ≡ take place marks
  pub slices : (text : rules.Text) → AreSlices text marks → AreSlices text next
  pub cut : AreCut marks → AreCut next

-- the runs stand in the marks, those of the stack before the run of this number and the rest behind it
abbrev pub StandAt : List MarkRef → List Run → List ℕ → ℕ → Type 0
StandAt marks runs openers number =
    Stands (marks_shown marks) 0 (length marks) (stack_of (all_placed runs) openers) (numbered (all_placed runs) number)
    (drop (suc number) (all_placed runs))

-- what holds at the run of this number, of any stretch of the marks, holds then
abbrev pub GoesOn : List MarkRef → List MarkRef → List Run → List Run → List ℕ → List ℕ → ℕ → Type 0
GoesOn marks next runs left openers kept number =
    (a b : ℕ) (goal : List Inline) → b ≤ length marks → ClosesAt (marks_shown marks) a b (all_placed runs) openers number goal →
    ClosesAt (marks_shown next) a b (all_placed left) kept number goal × Keeps a marks next

-- and before the next one, when it is passed
abbrev pub GoesPast : List MarkRef → List MarkRef → List Run → List Run → List ℕ → List ℕ → ℕ → Type 0
GoesPast marks next runs left openers kept number =
    (a b : ℕ) (goal : List Inline) → b ≤ length marks → ClosesAt (marks_shown marks) a b (all_placed runs) openers number goal →
    WalksAt (marks_shown next) a b (all_placed left) (joined_openers (all_placed left) kept number) (suc number) goal × Keeps a marks next

-- before the run of this number, of any stretch of the first marks
abbrev pub WalksOn : List MarkRef → List MarkRef → List Run → List Run → List ℕ → ℕ → Type 0
WalksOn marks next runs left openers number =
    (a : ℕ) → ArePlaced (marks_shown marks) a (length marks) (all_placed runs) →
    WalksAt (marks_shown next) a (length marks) (all_placed left) openers number
    (passed [] (seen (marks_shown marks) a (length marks) (all_placed runs))) × Keeps a marks next

-- the marks from a place on are the emphasis of what was seen there
pub record IsWrapped (place : ℕ) (marks next : List MarkRef) (runs : List Run) : Type 0 where
  pub emphasis : inlines_shown (drop place next) ≡ emphasis_of (seen (marks_shown marks) place (length marks) (all_placed runs))
  pub keeps : Keeps place marks next
