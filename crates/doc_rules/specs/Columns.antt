-- Columns and tabs (CommonMark 0.31.2, section 2.2).
use Rattle.std.specs.Prelude.{ℕ, ◌+◌, ◌-◌, ◌%◌, nat_lt, nat_le, Bool, true, false, ◌&&◌, ◌==◌, List, [], ◌∷◌, ◌++◌, map, replicate}
use Rattle.std.specs.Prelude.{if◌then◌else◌}
use Rattle.std.specs.List.{list_all}
use Rattle.doc_rules.specs.Characters.{Text, is_space_or_tab}

-- ---- where the characters of a line stand

-- a character of a line, its first column, from 0, and its number of columns
pub record Column : Type 0 where
  pub char : ℕ
  pub first : ℕ
  pub width : ℕ

-- the columns of a character that begins at this column: a tab reaches the next stop of 4 columns (2.2)
abbrev pub width_at : ℕ → ℕ → ℕ
width_at c at = if c == 9 then 4 - at % 4 else 1

-- the columns of a text that begins at this column
unfoldable pub columns_from : ℕ → Text → List Column
columns_from at [] = []
columns_from at (c ∷ rest) = record { char = c; first = at; width = width_at c at } ∷ columns_from (at + width_at c at) rest

-- the columns of a line
abbrev pub columns_of : Text → List Column
columns_of = columns_from 0

-- ---- what block structure looks at

-- a character and its number of columns
pub record Cell : Type 0 where
  pub char : ℕ
  pub width : ℕ

-- a line, or what is left of one, as cells
abbrev pub Line : Type 0
Line = List Cell

-- the column without its place
unfoldable pub cell_of : Column → Cell
cell_of column = record { char = column.char; width = column.width }

-- the cells of a text that begins at this column
abbrev pub cells_from : ℕ → Text → Line
cells_from at text = map cell_of (columns_from at text)

-- the cells of a line
abbrev pub cells_of : Text → Line
cells_of = cells_from 0

-- the characters of a line; where a tab is used in part, the spaces that are left of it
unfoldable pub text_of : Line → Text
text_of = map (λ cell. cell.char)

-- a space or a tab
abbrev pub is_gap : Cell → Bool
is_gap cell = is_space_or_tab cell.char

-- so many spaces
abbrev pub spaces : ℕ → Line
spaces n = replicate n (record { char = 32; width = 1 })

-- the line without its first n columns of spaces and tabs, or without all of them where there are fewer;
-- a tab used in part leaves its other columns as spaces (2.2)
unfoldable pub skip : ℕ → Line → Line
skip n [] = []
skip n (cell ∷ rest) =
    elim (is_gap cell && nat_lt 0 n) [
      | false ↦ cell ∷ rest
      | true ↦ elim (nat_le cell.width n) [ true ↦ skip (n - cell.width) rest | false ↦ spaces (cell.width - n) ++ rest ]
    ]

-- the columns of spaces and tabs at the front: the indentation
unfoldable pub indent : Line → ℕ
indent [] = 0
indent (cell ∷ rest) = elim (is_gap cell) [ true ↦ cell.width + indent rest | false ↦ 0 ]

-- the line behind its indentation
unfoldable pub after_indent : Line → Line
after_indent [] = []
after_indent (cell ∷ rest) = elim (is_gap cell) [ true ↦ after_indent rest | false ↦ cell ∷ rest ]

-- spaces and tabs alone (2.1)
abbrev pub is_blank_line : Line → Bool
is_blank_line = list_all is_gap
