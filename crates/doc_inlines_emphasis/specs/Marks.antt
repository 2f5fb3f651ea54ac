-- Delimiter runs in place: each delimiter has a mark of its own in one list of marks, and a pair turns two or four of them into a start
-- and an end. Nothing is inserted or moved.
use Rattle.std.specs.Prelude.{◌≡◌, ℕ, zero, suc, ◌+◌, ◌-◌, ◌<◌, ◌≤◌, nat_lt, true, false, ◌&&◌, List, [], ◌∷◌, ◌++◌}
use Rattle.std.proofs.Math.ListN.{get_or}
use Rattle.doc_rules.specs.Inlines.{Inline, Literal, Start, End, Delimiters, Open, Run}
use Rattle.doc_rules.specs.Emphasis.{span_of}

-- what each mark stands for: some inlines, or none
abbrev pub Marks : Type 0
Marks = List (List Inline)

-- a run by its place: the mark of the first delimiter that is left of it
pub record Placed : Type 0 where
  pub first : ℕ
  pub run : Run

-- the inlines of so many marks from a place on
unfoldable pub stretch : Marks → ℕ → ℕ → List Inline
stretch marks at zero = []
stretch marks at (suc n) = get_or marks at [] ++ stretch marks (suc at) n

-- the inlines of the marks from one place up to another, the delimiters of each of these runs as that run
unfoldable pub seen : Marks → ℕ → ℕ → List Placed → List Inline
seen marks a b [] = stretch marks a (b - a)
seen marks a b (placed ∷ more) = stretch marks a (placed.first - a)
    ++ (Delimiters placed.run ∷ seen marks (placed.first + placed.run.left) b more)

-- the marks of the delimiters that are left of a run are its character each
abbrev pub AreDelimiters : Marks → Placed → Type 0
AreDelimiters marks placed = (i : ℕ) → placed.first ≤ i → i < placed.first + placed.run.left
    → get_or marks i [] ≡ Literal placed.run.char ∷ []

-- the runs stand one after another between two places, and delimiters are left of each
abbrev pub ArePlaced : Marks → ℕ → ℕ → List Placed → Type 0
ArePlaced marks a b [] = a ≤ b
ArePlaced marks a b (placed ∷ more) =
    (a ≤ placed.first) × (1 ≤ placed.run.left) × AreDelimiters marks placed × ArePlaced marks (placed.first + placed.run.left) b more

-- no inline of the list is a run
abbrev pub NoRun : List Inline → Type 0
NoRun [] = Unit {0}
NoRun (Delimiters run ∷ more) = ⊥
NoRun (inline ∷ more) = NoRun more

-- no inline of the list is a run or a bracket: all is read
abbrev pub IsFinal : List Inline → Type 0
IsFinal [] = Unit {0}
IsFinal (Delimiters run ∷ more) = ⊥
IsFinal (Open bracket ∷ more) = ⊥
IsFinal (inline ∷ more) = IsFinal more

-- no mark stands for a run
abbrev pub ArePlain : Marks → Type 0
ArePlain marks = (i : ℕ) → NoRun (get_or marks i [])

-- the marks when n delimiters of this character from each of two places have become a start and an end
pub record IsPaired (marks next : Marks) (opening closing char n : ℕ) : Type 0 where
  pub start : get_or next opening [] ≡ Start (span_of char n) ∷ []
  pub start_second : n ≡ 2 → get_or next (suc opening) [] ≡ []
  pub stop : get_or next closing [] ≡ End (span_of char n) ∷ []
  pub stop_second : n ≡ 2 → get_or next (suc closing) [] ≡ []
  pub before : (i : ℕ) → i < opening → get_or marks i [] ≡ get_or next i []
  pub between : (i : ℕ) → opening + n ≤ i → i < closing → get_or marks i [] ≡ get_or next i []
  pub behind : (i : ℕ) → closing + n ≤ i → get_or marks i [] ≡ get_or next i []

-- ---- a pair that takes n delimiters of each run: the last ones of the opener, the first ones of the closer

-- an opener of which n are taken, where some are left
abbrev pub less_opener : ℕ → Placed → List Placed
less_opener n placed =
    elim (nat_lt n placed.run.left) [
      | true ↦ record { first = placed.first; run = record placed.run { left = placed.run.left - n } } ∷ []
      | false ↦ []
    ]

-- a closer of which n are taken
abbrev pub less_closer : ℕ → Placed → Placed
less_closer n placed = record { first = placed.first + n; run = record placed.run { left = placed.run.left - n } }

-- the present run, where delimiters are left of it
abbrev pub present : Run → List Inline
present run = elim (nat_lt 0 run.left) [ true ↦ Delimiters run ∷ [] | false ↦ [] ]

-- the runs that may still open when the present one is passed
abbrev pub joined : List Placed → Placed → List Placed
joined stack placed = elim (placed.run.opens && nat_lt 0 placed.run.left) [ true ↦ stack ++ (placed ∷ []) | false ↦ stack ]
