-- Where a row of an array of tables begins in the text of a document.
use Rattle.std.specs.Prelude.{◌≡◌, ℕ, ◌+◌, List, Option, Some, None, option_map, option_and_then, take, ◌==◌}
use Rattle.std.specs.List.{count_by}
use Rattle.toml.specs.Data.{Data, Items, no_items, item, get_member, as_array}
use Rattle.toml.specs.Parse.{parse_document}

abbrev pub count_items : Items → ℕ
count_items no_items = 0
count_items (item one rest) = count_items rest + 1

-- how many rows an array has; none where the key isn't there
abbrev pub count_at : Option Data → Option ℕ
count_at None = Some 0
count_at (Some value) = option_map count_items (as_array value)

-- how many rows of a key the document has that a text is
abbrev pub rows_in : List ℕ → List ℕ → Option ℕ
rows_in key text = option_and_then (λ document. count_at (get_member key document)) (parse_document text)

-- The row of this number begins between these two places: the text in front of it has one row less, and up to it that many.
pub record IsPlaceOf (key text : List ℕ) (row begin end : ℕ) : Type 0 where
  pub before : (one_less : ℕ) × (row ≡ one_less + 1) × (rows_in key (take begin text) ≡ Some one_less)
  pub with_it : rows_in key (take end text) ≡ Some row

-- the line of a place, from 1: it has as many line feeds before it
abbrev pub line_at : List ℕ → ℕ → ℕ
line_at text place = count_by (λ b. b == 10) (take place text) + 1

-- the row of this number begins in this line
abbrev pub IsLineOf : List ℕ → List ℕ → ℕ → ℕ → Type 0
IsLineOf key text row line = (begin : ℕ) × (end : ℕ) × IsPlaceOf key text row begin end × (line ≡ line_at text begin)
