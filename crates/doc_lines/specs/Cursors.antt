-- A cursor on a line (CommonMark 0.31.2, section 2.2, "Tabs"). Its form is this project's choice.
use Rattle.std.specs.Prelude.{◌≡◌, ℕ, ◌+◌, ◌-◌, ◌*◌, ◌^◌, ◌<◌, ◌≤◌, nat_lt, nat_le, Bool, true, false, ◌&&◌, List, [], ◌∷◌, ◌++◌, length}
use Rattle.std.specs.Prelude.{chars, Option, Some, None}
use Rattle.std.specs.Char.{len_utf8}
use Rattle.doc_rules.specs.Characters.{Text, is_space_or_tab}
use Rattle.doc_rules.specs.Columns.{Line, width_at, cells_from, spaces}

-- a place on a line: the bytes and the columns before it, from 0, whether it stands inside a tab, and the characters that are left,
-- of which such a tab is the first
pub record Position : Type 0 where
  pub place : ℕ
  pub column : ℕ
  pub in_tab : Bool
  pub rest : Text

-- the front of a line
abbrev pub start : Text → Position
start line = record { place = 0; column = 0; in_tab = false; rest = line }

-- the first character of a text
abbrev pub first : Text → Option ℕ
first [] = None
first (c ∷ rest) = Some c

-- the place behind this character, where this text is left: the columns that are left of a tab are passed with it
abbrev pub behind : Position → ℕ → Text → Position
behind from c rest = record { place = from.place + len_utf8 c; column = from.column + width_at c from.column; in_tab = false; rest = rest }

-- the place behind the first of these characters, which are left
abbrev pub behind_first : Position → Text → Position
behind_first from [] = from
behind_first from (c ∷ rest) = behind from c rest

-- the place behind the first character that is left
abbrev pub after_next : Position → Position
after_next from = behind_first from from.rest

-- the place n columns of spaces and tabs further on, or behind all of them where there are fewer (2.2); these characters are left
unfoldable pub skipped_in : Position → ℕ → Text → Position
skipped_in from n [] = from
skipped_in from n (c ∷ rest) =
    elim (is_space_or_tab c && nat_lt 0 n) [
      | false ↦ from
      | true ↦ elim (nat_le (width_at c from.column) n) [
        | true ↦ skipped_in (behind from c rest) (n - width_at c from.column) rest
        | false ↦ record { place = from.place; column = from.column + n; in_tab = true; rest = from.rest }
      ]
    ]

-- the place n columns of spaces and tabs further on
abbrev pub skipped : ℕ → Position → Position
skipped n from = skipped_in from n from.rest

-- the place behind the spaces and tabs that are next, where these characters are left
unfoldable pub passed_in : Position → Text → Position
passed_in from [] = from
passed_in from (c ∷ rest) = elim (is_space_or_tab c) [ true ↦ passed_in (behind from c rest) rest | false ↦ from ]

-- the place behind the spaces and tabs that are next
abbrev pub passed : Position → Position
passed from = passed_in from from.rest

-- this text at this column as cells; where that is inside a tab, the columns that are left of the tab are spaces
abbrev pub cells_at : Bool → ℕ → Text → Line
cells_at true at (c ∷ rest) = spaces (width_at c at) ++ cells_from (at + width_at c at) rest
cells_at in_tab at text = cells_from at text

-- what is left of the line: a tab that is used in part leaves its other columns as spaces (2.2)
abbrev pub left_of : Position → Line
left_of from = cells_at from.in_tab from.column from.rest

-- ---- the places that a cursor takes

-- what these bytes of a line of this length leave behind them
abbrev pub IsWithin : ℕ → List ℕ → Type 0
IsWithin line_length rest = (length rest ≤ line_length) × (line_length < 2 ^ 64)

-- the place before these bytes of a line of this length
abbrev pub position_at : ℕ → List ℕ → ℕ → Bool → Position
position_at line_length rest column in_tab = record {
  place = line_length - length rest;
  column = column;
  in_tab = in_tab;
  rest = chars
      rest;
}

-- a place inside a tab stands before a tab, and no byte has more than 4 columns
abbrev pub IsSoundAt : Bool → ℕ → ℕ → Text → Type 0
IsSoundAt true place column rest = (first rest ≡ Some 9) × (column + width_at 9 column ≤ 4 * place + 4)
IsSoundAt false place column rest = column ≤ 4 * place

abbrev pub IsSound : Position → Type 0
IsSound from = IsSoundAt from.in_tab from.place from.column from.rest

-- a cursor at this place of a line of this length knows the text behind the spaces and tabs that are next, and the column of that text
abbrev pub IsAhead : ℕ → List ℕ → ℕ → Position → Type 0
IsAhead line_length text column from = (length text ≤ line_length) × (position_at line_length text column false ≡ passed from)
