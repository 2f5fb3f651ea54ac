-- Numbers by text and number, as rows by text.
use Rattle.std.specs.Prelude.{◌≡◌, ℕ, List, [], ◌∷◌, ◌++◌, map as mapped, Option, Some, None, Bool, ◌==◌, ◌&&◌, if◌then◌else◌}
use Rattle.std.specs.Cmp.Lexicographic.{slice_cmp}
use Rattle.std.specs.FinMap as map
use Rattle.std.specs.Ordering.{eq_by_cmp, nat_cmp}
use Rattle.doc_index_tables.specs.Maps.{NumberMap, TextMap}

abbrev pub NumberTable : Type 0
NumberTable = TextMap (NumberMap ℕ)

-- the same number, and the same text, as maps tell them
abbrev pub same_number : ℕ → ℕ → Bool
same_number m n = eq_by_cmp nat_cmp m n

abbrev pub same_text : List ℕ → List ℕ → Bool
same_text s t = eq_by_cmp (slice_cmp nat_cmp) s t

abbrev pub number_in : Option (NumberMap ℕ) → ℕ → Option ℕ
number_in None n = None
number_in (Some row) n = map.get row n

-- the number of a text and a number
abbrev pub number_at : NumberTable → List ℕ → ℕ → Option ℕ
number_at table text n = number_in (map.get table text) n

abbrev pub row_or_empty : Option (NumberMap ℕ) → NumberMap ℕ
row_or_empty None = map.empty
row_or_empty (Some row) = row

abbrev pub with_number : NumberTable → List ℕ → ℕ → ℕ → NumberTable
with_number table text n value = map.insert table text (map.insert (row_or_empty (map.get table text)) n value)

-- what is left of the row of a text without the number of a number
abbrev pub left_in_row : NumberTable → List ℕ → ℕ → NumberMap ℕ
left_in_row table text n = map.remove (row_or_empty (map.get table text)) n

-- a row that is empty goes
abbrev pub without_number : NumberTable → List ℕ → ℕ → NumberTable
without_number table text n =
    if map.len (left_in_row table text n) == 0 then map.remove table text else map.insert table text (left_in_row table text n)

-- one table has what another has
abbrev pub HasSame : NumberTable → NumberTable → Type 0
HasSame old new = (text : List ℕ) (n : ℕ) → number_at new text n ≡ number_at old text n

-- one table has these counts under a number, and else what another has
abbrev pub HasCounts : TextMap ℕ → ℕ → NumberTable → NumberTable → Type 0
HasCounts counts slot old new =
    (text : List ℕ) (n : ℕ) → number_at new text n ≡ (if same_number n slot then map.get counts text else number_at old text n)

-- one table has what another has, but none of these counts under a number
abbrev pub LacksCounts : TextMap ℕ → ℕ → NumberTable → NumberTable → Type 0
LacksCounts counts slot old new =
    (text : List ℕ) (n : ℕ)
    → number_at new text n ≡ (if same_number n slot && map.contains_key counts text then None else number_at old text n)

abbrev pub row_numbers : NumberMap ℕ → List ℕ
row_numbers row = mapped (λ e. e.1) (map.entries row)

-- the numbers of rows, one row after another
abbrev pub numbers_of : List (NumberMap ℕ) → List ℕ
numbers_of [] = []
numbers_of (row ∷ rows) = row_numbers row ++ numbers_of rows
