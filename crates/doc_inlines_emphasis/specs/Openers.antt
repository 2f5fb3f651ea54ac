-- The runs that may still open, with a lower bound for each kind of closer below which none of them opens for it (the delimiter stack
-- and `openers_bottom` of the appendix of CommonMark 0.31.2). Runs are numbered from left to right.
use Rattle.std.specs.Prelude.{◌≡◌, ℕ, zero, suc, ◌+◌, ◌%◌, ◌<◌, ◌≤◌, nat_lt, true, false, ◌==◌, ◌⊎◌, List, length, slice_index, Option}
use Rattle.std.specs.Prelude.{Some, None, if◌then◌else◌}
use Rattle.doc_rules.specs.Inlines.{Run}
use Rattle.doc_rules.specs.Emphasis.{matches}

-- all that a match asks of a closer: its character, whether it also opens, and its length modulo 3, or of '~' its length
unfoldable pub closer_kind : Run → ℕ
closer_kind run =
    if run.char == 126 then if run.length == 2 then 13 else 12
    else (if run.char == 42 then 6 else 0) + ((if run.opens then 3 else 0) + run.length % 3)

-- '*' or '_'
abbrev pub IsEmphasis : ℕ → Type 0
IsEmphasis c = (c ≡ 42) ⊎ (c ≡ 95)

-- one or two '~'
abbrev pub IsStrike : ℕ → ℕ → Type 0
IsStrike c n = (c ≡ 126) × ((n ≡ 1) ⊎ (n ≡ 2))

-- a run of this character is as long as it may be
abbrev pub IsDelimiter : ℕ → ℕ → Type 0
IsDelimiter c n = IsEmphasis c ⊎ IsStrike c n

-- a run that may close
abbrev pub IsCloser : Run → Type 0
IsCloser run = (run.closes ≡ true) × IsDelimiter run.char run.length

-- ---- the nearest opener

-- whether the run that stands at this place among the openers is one for the closer
abbrev pub opens_for : (ℕ → Run) → List ℕ → Run → ℕ → Type 0
opens_for runs openers closer place = matches (runs (slice_index openers place)) closer ≡ true

abbrev pub misses : (ℕ → Run) → List ℕ → Run → ℕ → Type 0
misses runs openers closer place = matches (runs (slice_index openers place)) closer ≡ false

-- none of the openers from this place on is one for the closer
abbrev pub MissedFrom : (ℕ → Run) → List ℕ → Run → ℕ → Type 0
MissedFrom runs openers closer n = (place : ℕ) → n ≤ place → place < length openers → misses runs openers closer place

-- the place of the nearest opener for the closer: the last one, where there is one
abbrev pub NearestIs : (ℕ → Run) → List ℕ → Run → Option ℕ → Type 0
NearestIs runs openers closer None = MissedFrom runs openers closer 0
NearestIs runs openers closer (Some place) = (place < length openers) × opens_for runs openers closer place
    × MissedFrom runs openers closer (suc place)

-- the search for it, among the first n openers
unfoldable pub nearest : (ℕ → Run) → List ℕ → Run → ℕ → Option ℕ
nearest runs openers closer zero = None
nearest runs openers closer (suc n) = elim (matches (runs (slice_index openers n)) closer)
    [ true ↦ Some n | false ↦ nearest runs openers closer n ]

-- the search that ends at a run numbered below the bound
unfoldable pub nearest_above : (bound : ℕ) → (ℕ → Run) → List ℕ → Run → ℕ → Option ℕ
nearest_above bound runs openers closer zero = None
nearest_above bound runs openers closer (suc n) =
    elim (nat_lt (slice_index openers n) bound) [
      | true ↦ None
      | false ↦ elim (matches (runs (slice_index openers n)) closer) [ true ↦ Some n | false ↦ nearest_above bound runs openers closer n ]
    ]

-- ---- lower bounds

-- no opener numbered below the bound of its kind is one for a closer
abbrev pub AreBounds : List ℕ → (ℕ → Run) → List ℕ → Type 0
AreBounds bounds runs openers =
    (closer : Run) → IsCloser closer → (place : ℕ) → place < length openers
    → slice_index openers place < slice_index bounds (closer_kind closer) → misses runs openers closer place

-- the numbers of the openers ascend
abbrev pub Ascend : List ℕ → Type 0
Ascend openers = (i j : ℕ) → i < j → j < length openers → slice_index openers i < slice_index openers j

-- the openers stand before this run
abbrev pub StandBefore : ℕ → List ℕ → Type 0
StandBefore number openers = (place : ℕ) → place < length openers → slice_index openers place < number

-- each of the openers may open
abbrev pub AllOpen : (ℕ → Run) → List ℕ → Type 0
AllOpen runs openers = (place : ℕ) → place < length openers → (runs (slice_index openers place)).opens ≡ true

-- no bound is higher than this run
abbrev pub ReachTo : ℕ → List ℕ → Type 0
ReachTo number bounds = (kind : ℕ) → slice_index bounds kind ≤ number

-- a match asks the same of both runs
abbrev pub OpenAlike : Run → Run → Type 0
OpenAlike one other = (one.char ≡ other.char) × (one.length ≡ other.length) × (one.opens ≡ other.opens) × (one.closes ≡ other.closes)
