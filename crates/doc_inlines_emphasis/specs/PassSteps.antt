-- Words for steps of the pass over runs in place: what holds before the next run and at the present one, also by their numbers.
use Rattle.std.specs.Prelude.{◌≡◌, ◌⊎◌, ℕ, suc, ◌+◌, List, [], ◌∷◌, ◌++◌, drop}
use Rattle.doc_rules.specs.Inlines.{Inline}
use Rattle.doc_inlines_emphasis.specs.OnePass.{passed}
use Rattle.doc_inlines_emphasis.specs.Openers.{AreBounds, Ascend, StandBefore, AllOpen, ReachTo}
use Rattle.doc_inlines_emphasis.specs.Marks.{Marks, Placed, seen, AreDelimiters, ArePlaced, ArePlain, present}
use Rattle.doc_inlines_emphasis.specs.NumberSteps.{numbered, run_numbered, stack_of}

-- the inlines of xs, the last first, before b
unfoldable pub onto : List Inline → List Inline → List Inline
onto [] b = b
onto (x ∷ xs) b = onto xs (x ∷ b)

-- a pair takes one delimiter of each run, or two
abbrev pub OneOrTwo : ℕ → Type 0
OneOrTwo n = (n ≡ 1) ⊎ (n ≡ 2)

-- ---- at a run

-- what the pass makes of what is seen, with the runs of the stack before the present one and the rest behind it
abbrev pub outcome : Marks → ℕ → ℕ → List Placed → Placed → List Placed → List Inline
outcome marks a b stack c rest = passed (onto (seen marks a c.first stack) []) (present c.run ++ seen marks (c.first + c.run.left) b rest)

-- what holds of the marks then
pub record Stands (marks : Marks) (a b : ℕ) (stack : List Placed) (c : Placed) (rest : List Placed) : Type 0 where
  pub plain : ArePlain marks
  pub before : ArePlaced marks a c.first stack
  pub here : AreDelimiters marks c
  pub behind : ArePlaced marks (c.first + c.run.left) b rest

-- before the next run: the runs of the stack stand before a place, the rest behind it, and the pass makes this of them
pub record Walks (marks : Marks) (a b : ℕ) (stack rest : List Placed) (goal : List Inline) : Type 0 where
  pub place : ℕ
  pub plain : ArePlain marks
  pub before : ArePlaced marks a place stack
  pub behind : ArePlaced marks place b rest
  pub makes : passed (onto (seen marks a place stack) []) (seen marks place b rest) ≡ goal

-- at the present run
pub record Closes (marks : Marks) (a b : ℕ) (stack : List Placed) (c : Placed) (rest : List Placed) (goal : List Inline) : Type 0 where
  pub stands : Stands marks a b stack c rest
  pub makes : outcome marks a b stack c rest ≡ goal

-- ---- by the runs' numbers

-- what holds at the run of this number
abbrev pub ClosesAt : Marks → ℕ → ℕ → List Placed → List ℕ → ℕ → List Inline → Type 0
ClosesAt marks a b runs openers number goal = Closes marks a b (stack_of runs openers) (numbered runs number) (drop (suc number) runs) goal

-- the openers and the bounds at the run of this number
pub record Stacked (runs : List Placed) (openers bounds : List ℕ) (number : ℕ) : Type 0 where
  pub bounded : AreBounds bounds (run_numbered runs) openers
  pub ascend : Ascend openers
  pub before : StandBefore number openers
  pub reach : ReachTo number bounds
  pub opening : AllOpen (run_numbered runs) openers

-- before the run of this number
abbrev pub WalksAt : Marks → ℕ → ℕ → List Placed → List ℕ → ℕ → List Inline → Type 0
WalksAt marks a b runs openers number goal = Walks marks a b (stack_of runs openers) (drop number runs) goal
