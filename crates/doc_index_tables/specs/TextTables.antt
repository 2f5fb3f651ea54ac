-- Maps by text, in which short texts are numbers.
use Rattle.std.specs.Prelude.{ℕ, List, [], ◌∷◌, ◌++◌, String, string_bytes, if◌then◌else◌}
use Rattle.std.specs.FinMap as map
use Rattle.doc_index_tables.specs.Maps.{TextMap}
use Rattle.doc_index_tables.specs.ShortTexts.{has_number, is_number, text_of}

-- entries of numbers by the texts of these
unfoldable pub short_entries : {X : Type 0} → List (ℕ × X) → List (List ℕ × X)
short_entries [] = []
short_entries (e ∷ es) = if is_number e.0 then (text_of e.0, e.1) ∷ short_entries es else short_entries es

-- the entries of texts that have no number
unfoldable pub long_entries : {A X : Type 0} → List (String A × X) → List (List ℕ × X)
long_entries [] = []
long_entries (e ∷ es) = if has_number (string_bytes e.0) then long_entries es else (string_bytes e.0, e.1) ∷ long_entries es

-- the map that both make
abbrev pub both_kinds : {A X : Type 0} → List (ℕ × X) → List (String A × X) → TextMap X
both_kinds short long = map.from_entries (short_entries short ++ long_entries long)
