-- Words of two rows side by side: texts that rise, and the number of each.
use Rattle.std.specs.Prelude.{◌≡◌, ◌<◌, ◌≤◌, ℕ, List, length, Result, Ok, Err}
use Rattle.std.specs.Cmp.Lexicographic.{slice_cmp}
use Rattle.std.specs.FinMap as map
use Rattle.std.specs.List.{HoldsAt, zip}
use Rattle.std.specs.List.Sorted.{IsPartitionPoint, IsStrictlySortedBy}
use Rattle.std.specs.Ordering.{nat_cmp}
use Rattle.std.specs.declared.cmp.Ordering.{Ordering}
use Rattle.std.specs.declared.cmp.Ordering.TheVariants.{Less, Greater}
use Rattle.doc_store_readers.specs.Maps.{TextMap}

-- the order of texts: that of their bytes
abbrev pub text_cmp : List ℕ → List ℕ → Ordering
text_cmp = slice_cmp nat_cmp

-- As many numbers as texts, and these rise.
pub record AreRows (texts : List (List ℕ)) (numbers : List ℕ) : Type 0 where
  pub as_many : length numbers ≡ length texts
  pub rising : IsStrictlySortedBy text_cmp texts

-- the map that two rows are
abbrev pub map_of : List (List ℕ) → List ℕ → TextMap ℕ
map_of texts numbers = map.from_entries (zip texts numbers)

-- where a text stands in a row, or else where it would: behind those before it
abbrev pub IsPlace : List ℕ → List (List ℕ) → Result ℕ ℕ → Type 0
IsPlace text texts (Ok at) = (at < length texts) × HoldsAt (λ t. t ≡ text) texts at
IsPlace text texts (Err at) =
    (at ≤ length texts) × IsPartitionPoint (λ t. text_cmp t text ≡ Less) (λ t. text_cmp t text ≡ Greater) texts at
