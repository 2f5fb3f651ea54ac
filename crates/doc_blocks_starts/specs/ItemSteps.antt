-- What reading a marker of a list item takes of a line (CommonMark 0.31.2, section 5.2).
use Rattle.std.specs.Prelude.{◌≡◌, ◌==◌, ℕ, ◌+◌, ◌≤◌, nat_le, true, false, [], ◌∷◌, drop, length, Option, Some, None, if◌then◌else◌}
use Rattle.std.specs.Char.{is_ascii_digit, digit_value}
use Rattle.doc_rules.specs.Columns.{Line, Cell, indent, after_indent, is_blank_line}
use Rattle.doc_rules.specs.ContainerStarts as rules
use Rattle.doc_rules.specs.Escapes.{number}
use Rattle.doc_lines.specs.Cursors.{Position, left_of}
use Rattle.doc_blocks_starts.specs.Items.{kind_of}
use Rattle.doc_blocks_starts.specs.declared.item.marker.Digits.{Digits}
use Rattle.doc_blocks_starts.specs.declared.item.marker.Marker.{Marker}

-- a marker that this place is behind
abbrev pub marker_shown : Marker → Position → rules.ListMarker
marker_shown m behind = record { kind = kind_of m.kind; start = m.start; behind = left_of behind }

abbrev pub marker_taken : Option Marker → Position → Option rules.ListMarker
marker_taken None behind = None
marker_taken (Some m) behind = Some (marker_shown m behind)

-- the columns of an item's content behind its marker, in front of this
unfoldable pub content_columns : Line → Option ℕ
content_columns behind =
    elim (is_blank_line behind) [
      | true ↦ Some 1
      | false ↦ elim (indent behind == 0) [ true ↦ None | false ↦ Some (if nat_le (indent behind) 4 then indent behind else 1) ]
    ]

-- this digit was taken off the front of a line
pub record TakesDigit (line rest : Line) (value : ℕ) : Type 0 where
  pub cell : Cell
  pub split : line ≡ cell ∷ rest
  pub good : is_ascii_digit cell.char ≡ true
  pub value_is : value ≡ digit_value cell.char

-- a digit was, or none stands there
abbrev pub IsDigitTaken : Line → Line → Option ℕ → Type 0
IsDigitTaken line rest None = (rules.digits_of line ≡ []) × (rest ≡ line)
IsDigitTaken line rest (Some value) = TakesDigit line rest value

-- all digits were taken off the front of a line, 9 at most
pub record AreDigits (line rest : Line) (digits : Digits) : Type 0 where
  pub all : digits.length ≡ length (rules.digits_of line)
  pub few : digits.length ≤ 9
  pub number_is : digits.number ≡ number 10 (rules.digits_of line)
  pub split : rest ≡ drop digits.length line
  pub size : digits.length + length rest ≡ length line

-- this marker stands on a line with this indentation, and this place is behind it
pub record IsMarkerOf (line : Line) (margin : ℕ) (marker : Marker) (behind : Position) : Type 0 where
  pub indented : margin ≡ indent line
  pub near : margin ≤ 3
  pub size : marker.length + length (left_of behind) ≡ length (after_indent line)
  pub few : marker.length ≤ 10
