-- Words for steps over runs by their numbers: a stack of numbers as the runs that they are, and what a pair writes.
use Rattle.std.specs.Prelude.{ℕ, suc, ◌-◌, nat_lt, true, false, ◌&&◌, List, [], ◌∷◌, ◌++◌, map, take}
use Rattle.std.proofs.Math.ListN.{get_or, set}
use Rattle.doc_rules.specs.Inlines.{Run}
use Rattle.doc_inlines_emphasis.specs.Marks.{Placed, less_closer}

-- what stands where no run has the number
abbrev pub no_run : Placed
no_run = record { first = 0; run = record { char = 0; left = 0; length = 0; opens = false; closes = false } }

-- a run by its number
abbrev pub numbered : List Placed → ℕ → Placed
numbered runs number = get_or runs number no_run

abbrev pub run_numbered : List Placed → ℕ → Run
run_numbered runs number = (numbered runs number).run

-- the runs of a stack of numbers
abbrev pub stack_of : List Placed → List ℕ → List Placed
stack_of runs openers = map (numbered runs) openers

-- an opener of which n are taken
abbrev pub taken_opener : ℕ → Placed → Placed
taken_opener n placed = record { first = placed.first; run = record placed.run { left = placed.run.left - n } }

-- the runs when the one of the first number opened for the one of the second, n delimiters of each
abbrev pub paired_runs : List Placed → ℕ → ℕ → ℕ → List Placed
paired_runs runs opener closer n = set (set runs opener (taken_opener n (numbered runs opener))) closer
    (less_closer n (numbered runs closer))

-- the openers when the one at this place lost n delimiters: those above it go, and it goes where none is left
abbrev pub paired_openers : List Placed → List ℕ → ℕ → ℕ → List ℕ
paired_openers runs openers place n =
    elim (nat_lt n (run_numbered runs (get_or openers place 0)).left) [ true ↦ take (suc place) openers | false ↦ take place openers ]

-- the openers when the run of this number is passed: it joins where it may open and delimiters are left of it
abbrev pub joined_openers : List Placed → List ℕ → ℕ → List ℕ
joined_openers runs openers number =
    elim ((run_numbered runs number).opens && nat_lt 0 (run_numbered runs number).left)
    [ true ↦ openers ++ (number ∷ []) | false ↦ openers ]
