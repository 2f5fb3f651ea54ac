-- Pairs of numbers in their three forms.
use Rattle.std.specs.Prelude.{◌<◌, ◌^◌, ℕ, List, ⊤}
use Rattle.doc_index_tables.specs.declared.pairs.Kept.{Kept}
use Rattle.doc_index_tables.specs.declared.pairs.Kept.TheVariants.{Small, Narrow, Wide}

abbrev pub pairs_in : Kept → List (ℕ × ℕ)
pairs_in (Small pairs) = pairs.items
pairs_in (Narrow pairs) = pairs.items
pairs_in (Wide pairs) = pairs.items

-- whether the form has room for a pair's numbers; the widest has it for each that there is
abbrev pub FitsIn : ℕ × ℕ → Kept → Type 0
FitsIn pair (Small pairs) = (pair.0 < 2 ^ 16) × (pair.1 < 2 ^ 16)
FitsIn pair (Narrow pairs) = (pair.0 < 2 ^ 32) × (pair.1 < 2 ^ 32)
FitsIn pair (Wide pairs) = ⊤
