-- The words of the pages that are held.
use Rattle.std.specs.Prelude.{ℕ, List, Option, unwrap_or, map as mapped}
use Rattle.std.specs.FinMap as map
use Rattle.doc_index.specs.declared.held.Held.{Held}
use Rattle.doc_index.specs.Held.{entries_of}
use Rattle.doc_index_tables.specs.Maps.{PairMap, TextMap}

-- the counts of the words of each page that has a slot, by its path and its stamp
abbrev pub words_held : {T : Type 0} → List (Option (Held T)) → PairMap (TextMap ℕ)
words_held slots = map.from_entries (mapped (λ entry. (entry.0, entry.1.counts)) (entries_of slots))

-- the counts of nothing are none
abbrev pub counts_or_none : Option (TextMap ℕ) → TextMap ℕ
counts_or_none counts = unwrap_or counts map.empty
