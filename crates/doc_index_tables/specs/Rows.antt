-- Rows of numbers in their three forms.
use Rattle.std.specs.Prelude.{◌≤◌, ℕ, List, ⊤}
use Rattle.std.specs.FinMap as map
use Rattle.std.specs.Option.{option_to_list}
use Rattle.doc_index_tables.specs.Blocks.{block_limit}
use Rattle.doc_index_tables.specs.Maps.{NumberMap}
use Rattle.doc_index_tables.specs.declared.entries.Left.{Left}
use Rattle.doc_index_tables.specs.declared.entries.Left.TheVariants.{Single as OfSingle, Blocks as OfBlocks}
use Rattle.doc_index_tables.specs.declared.row.Kept.{Kept}
use Rattle.doc_index_tables.specs.declared.row.Kept.TheVariants.{Single, One, Many}

abbrev pub row_of : Kept → NumberMap ℕ
row_of (Single single) = single
row_of (One block) = block
row_of (Many blocks) = blocks

-- a block alone is no larger than one among others
abbrev pub IsKept : Kept → Type 0
IsKept (Single single) = ⊤
IsKept (One block) = map.len block ≤ block_limit
IsKept (Many blocks) = ⊤

-- the entries of a row that are left
abbrev pub entries_left : Left → List (ℕ × ℕ)
entries_left (OfSingle entry) = option_to_list entry
entries_left (OfBlocks entries) = entries
