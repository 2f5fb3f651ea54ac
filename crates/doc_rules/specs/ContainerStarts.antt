-- Starts of block quotes and list items (CommonMark 0.31.2, sections 5.1 and 5.2).
use Rattle.std.specs.Prelude.{ℕ, ◌+◌, ◌-◌, nat_le, Bool, true, false, not, ◌&&◌, ◌==◌, [], ◌∷◌, drop, length, Option, Some, None}
use Rattle.std.specs.Prelude.{option_and_then, if◌then◌else◌, codes}
use Rattle.std.specs.Char.{is_ascii_digit}
use Rattle.doc_rules.specs.Characters.{Text, one_of}
use Rattle.doc_rules.specs.Columns.{Line, indent, after_indent, skip, is_blank_line}
use Rattle.doc_rules.specs.Escapes.{number}

-- ---- block quotes (5.1)

-- the line behind a '>', without one column of a space or a tab that follows it
unfoldable pub behind_quote_marker : Line → Option Line
behind_quote_marker [] = None
behind_quote_marker (cell ∷ rest) = elim (cell.char == 62) [ true ↦ Some (skip 1 rest) | false ↦ None ]

-- the line behind the marker of a block quote, which stands at most 3 columns in
unfoldable pub quote_start : Line → Option Line
quote_start line = elim (nat_le (indent line) 3) [ false ↦ None | true ↦ behind_quote_marker (after_indent line) ]

-- ---- markers of list items (5.2)

-- the kind of a list: the character of its bullets, or the delimiter behind its numbers
pub data ListKind : Type 0 where
  Bullet Ordered : ℕ → ListKind

-- items of these two kinds are of one list (5.3)
unfoldable pub is_same_kind : ListKind → ListKind → Bool
is_same_kind (Bullet a) (Bullet b) = a == b
is_same_kind (Ordered a) (Ordered b) = a == b
is_same_kind _ _ = false

-- a marker at the front of a line: its kind, its number (0 for a bullet), and the line behind it
pub record ListMarker : Type 0 where
  pub kind : ListKind
  pub start : ℕ
  pub behind : Line

-- the digits at the front of a line
unfoldable pub digits_of : Line → Text
digits_of [] = []
digits_of (cell ∷ rest) = elim (is_ascii_digit cell.char) [ true ↦ cell.char ∷ digits_of rest | false ↦ [] ]

-- '-', '+' or '*'
unfoldable pub bullet_marker : Line → Option ListMarker
bullet_marker [] = None
bullet_marker (cell ∷ rest) = elim (one_of (codes "-+*") cell.char)
    [ true ↦ Some (record { kind = Bullet cell.char; start = 0; behind = rest }) | false ↦ None ]

-- the '.' or ')' behind this number
unfoldable pub ordered_marker : ℕ → Line → Option ListMarker
ordered_marker start [] = None
ordered_marker start (cell ∷ rest) = elim (one_of (codes ".)") cell.char)
    [ true ↦ Some (record { kind = Ordered cell.char; start = start; behind = rest }) | false ↦ None ]

-- a bullet, or 1 to 9 digits and a delimiter
unfoldable pub list_marker : Line → Option ListMarker
list_marker line =
    let digits : Text = digits_of line in
    elim (length digits == 0) [
      | true ↦ bullet_marker line
      | false ↦ elim (nat_le (length digits) 9) [ true ↦ ordered_marker (number 10 digits) (drop (length digits) line) | false ↦ None ]
    ]

-- ---- list items (5.2)

-- an item: its kind and number, the columns before its content, and what stands of its content on this line
pub record ItemStart : Type 0 where
  pub kind : ListKind
  pub start : ℕ
  pub columns : ℕ
  pub first : Line

-- the columns up to and with the marker, each of whose characters has one
unfoldable pub marker_end : Line → ListMarker → ℕ
marker_end line marker = indent line + (length (after_indent line) - length marker.behind)

-- the item whose content begins n columns behind its marker
unfoldable pub item_at : Line → ListMarker → ℕ → ItemStart
item_at line marker n = record {
  kind = marker.kind;
  start = marker.start;
  columns = marker_end line marker + n;
  first = skip n
      marker.behind;
}

-- the content begins 1 to 4 columns behind the marker; where 5 or more columns follow, or the line ends, 1 column behind it
unfoldable pub item_of : Line → ListMarker → Option ItemStart
item_of line marker =
    elim (is_blank_line marker.behind) [
      | true ↦ Some (item_at line marker 1)
      | false ↦ elim (indent marker.behind == 0) [
        | true ↦ None
        | false ↦ Some (item_at line marker (if nat_le (indent marker.behind) 4 then indent marker.behind else 1))
      ]
    ]

-- the item that a line begins, its marker at most 3 columns in
unfoldable pub item_start : Line → Option ItemStart
item_start line = elim (nat_le (indent line) 3) [ false ↦ None | true ↦ option_and_then (item_of line) (list_marker (after_indent line)) ]

-- a bullet, or the number 1
unfoldable pub begins_a_list : ItemStart → ListKind → Bool
begins_a_list item (Bullet c) = true
begins_a_list item (Ordered c) = item.start == 1

-- an item that starts blank, or whose number isn't 1, may not interrupt a paragraph
unfoldable pub item_may_interrupt : ItemStart → Bool
item_may_interrupt item = not (is_blank_line item.first) && begins_a_list item item.kind
