-- Markers of block quotes and list items, a character at a time.
use Rattle.std.proofs.Common.{◌≡◌, ℕ, zero, suc, ◌+◌, ◌-◌, ◌*◌, ◌<◌, ◌≤◌, Bool, true, false, ◌==◌, [], ◌∷◌, drop, length, refl, ap, sym}
use Rattle.std.proofs.Common.{◌∙◌, Option, Some, None, arith}
use Rattle.std.specs.Prelude.{fold, codes, map, min, not, nat_le, option_map, option_and_then, if◌then◌else◌}
use Rattle.std.specs.Option.{is_some}
use Rattle.std.specs.Char.{is_ascii_digit, digit_value}
use Rattle.std.proofs.lemmas.Bool.{eqb-true, not-true, not-false}
use Rattle.std.proofs.lemmas.Bool.Decides.{nat_tests}
use Rattle.std.proofs.lemmas.Int.{clamps}
use Rattle.doc_rules.specs.Characters.{Text, one_of}
use Rattle.doc_rules.specs.Columns.{Line, Cell, width_at, columns_from, cell_of, cells_from, text_of, skip, indent, after_indent}
use Rattle.doc_rules.specs.Columns.{is_blank_line}
use Rattle.doc_rules.specs.ContainerStarts.{ListKind, Bullet, Ordered, ListMarker, ItemStart, behind_quote_marker, quote_start, digits_of}
use Rattle.doc_rules.specs.ContainerStarts.{bullet_marker, ordered_marker, list_marker, marker_end, item_at, item_of, item_start}
use Rattle.doc_rules.specs.LeafStarts.{marker_text}
use Rattle.doc_rules.specs.Parsers.{is}
use Rattle.doc_rules.specs.Escapes.{number}
use Rattle.doc_lines.specs.Cursors.{Position, first, after_next, left_of}
use Rattle.doc_blocks_starts.specs.Lines.{is_quoted, IsPlain}
use Rattle.doc_blocks_starts.specs.ItemSteps.{TakesDigit, content_columns}
use Rattle.doc_blocks_starts.proofs.CellLaws.{front_is_plain, front_end, front_cell}

-- ---- block quotes

abbrev if_quoted : Line → Bool → Option Line
if_quoted rest b = elim b [ true ↦ Some (skip 1 rest) | false ↦ None ]

quote_at : (from next : Position) (c : ℕ) → IsPlain from → Some c ≡ first from.rest → next ≡ after_next from
    → behind_quote_marker (left_of from) ≡ if_quoted (left_of next) (c == 62)
unfolding behind_quote_marker
quote_at from next c plain e f = ap behind_quote_marker (front_cell from next c plain e f)

pub quote_marked : (from next after : Position) (c : ℕ) → IsPlain from → Some c ≡ first from.rest → next ≡ after_next from → c ≡ 62
    → left_of after ≡ skip 1 (left_of next) →
    Some (left_of after) ≡ behind_quote_marker (left_of from)
quote_marked from next after c plain e f same g = ap Some g
    ∙ sym (quote_at from next c plain e f ∙ ap (λ k. if_quoted (left_of next) (k == 62)) same)

-- no marker of a quote stands behind the indentation
no_quote_in : (cells : Line) → is_some (is 62 (text_of cells)) ≡ false → None ≡ behind_quote_marker cells
unfolding text_of behind_quote_marker
no_quote_in [] e = refl
no_quote_in (cell ∷ more) e = at (cell.char == 62) e
  where
    at : (b : Bool) → is_some (elim b as (λ _. Option Text) [ true ↦ Some (map (λ cell. cell.char) more) | false ↦ None ]) ≡ false
        → None ≡ if_quoted more b
    at true e = absurd cc
    at false e = refl

pub no_quote : (line : Line) → is_quoted (marker_text line) ≡ false → None ≡ quote_start line
unfolding marker_text quote_start
no_quote line e = at (nat_le (indent line) 3) e
  where
    at : (b : Bool) → is_quoted (elim b as (λ _. Option Text) [ true ↦ Some (text_of (after_indent line)) | false ↦ None ]) ≡ false
        → None ≡ elim b as (λ _. Option Line) [ false ↦ None | true ↦ behind_quote_marker (after_indent line) ]
    at true e = no_quote_in (after_indent line) e
    at false e = refl

-- the marker of a quote is the next character
quote_next : (text : Text) (at : ℕ) → is_some (is 62 (text_of (cells_from at text))) ≡ true → Some 62 ≡ first text
unfolding text_of columns_from cell_of
quote_next [] at e = absurd cc
quote_next (c ∷ text) at e = by (c == 62) refl e
  where
    by : (b : Bool) → (c == 62) ≡ b
        → is_some (elim b as (λ _. Option Text) [ true ↦ Some (text_of (cells_from (at + width_at c at) text)) | false ↦ None ]) ≡ true
        → Some 62 ≡ Some c
    by true same e = ap Some (sym (eqb-true c 62 same))
    by false same e = absurd cc

-- it is taken, and one column behind it
pub quote_taken : (line : Line) (from next after : Position) → is_quoted (marker_text line) ≡ true → left_of from ≡ after_indent line
    → next ≡ after_next from → left_of after ≡ skip 1 (left_of next) →
    Some (left_of after) ≡ quote_start line
unfolding marker_text quote_start
quote_taken line from next after e f g h = at (nat_le (indent line) 3) e
  where
    at : (b : Bool) → is_quoted (elim b as (λ _. Option Text) [ true ↦ Some (text_of (after_indent line)) | false ↦ None ]) ≡ true
        → Some (left_of after) ≡ elim b as (λ _. Option Line) [ false ↦ None | true ↦ behind_quote_marker (after_indent line) ]
    at false e = absurd cc
    at true e =
        let plain : IsPlain from = front_is_plain line from f in
        let here : is_some (is 62 (text_of (cells_from from.column from.rest))) ≡ true
        = ap (λ (l : Line). is_some (is 62 (text_of l))) (sym plain ∙ f) ∙ e in
        quote_marked from next after 62 plain (quote_next from.rest from.column here) g refl h ∙ ap behind_quote_marker f

-- ---- items

pub no_item_so_far_in : (line : Line) → not (nat_le (indent line) 3) ≡ true → None ≡ item_start line
unfolding item_start
no_item_so_far_in line e =
    ap (λ (b : Bool). elim b [ false ↦ None | true ↦ option_and_then (item_of line) (list_marker (after_indent line)) ])
    (sym (not-true (nat_le (indent line) 3) e))

-- the item of a line is the one of its marker
pub item_by_marker : (line : Line) (marker : Option ListMarker) → not (nat_le (indent line) 3) ≡ false
    → marker ≡ list_marker (after_indent line) → option_and_then (item_of line) marker ≡ item_start line
unfolding item_start
item_by_marker line marker e f =
    ap (option_and_then (item_of line)) f
    ∙ ap (λ (b : Bool). elim b [ false ↦ None | true ↦ option_and_then (item_of line) (list_marker (after_indent line)) ])
    (sym (not-false (nat_le (indent line) 3) e))

-- the item of a marker, by the columns of its content
pub item_by_columns : (line : Line) (marker : ListMarker)
    → option_map (item_at line marker) (content_columns marker.behind) ≡ item_of line marker
unfolding item_of content_columns
item_by_columns line marker = at (is_blank_line marker.behind) (indent marker.behind == 0)
  where
    at : (blank none : Bool)
        → option_map (item_at line marker) (elim blank [
          | true ↦ Some 1
          | false ↦ elim none [ true ↦ None | false ↦ Some (if nat_le (indent marker.behind) 4 then indent marker.behind else 1) ]
        ])
        ≡ elim blank [
          | true ↦ Some (item_at line marker 1)
          | false ↦ elim none [
            | true ↦ None
            | false ↦ Some (item_at line marker (if nat_le (indent marker.behind) 4 then indent marker.behind else 1))
          ]
        ]
    at true none = refl
    at false true = refl
    at false false = refl

abbrev made : ListMarker → (columns : ℕ) → (first : Line) → ItemStart
made marker columns first = record { kind = marker.kind; start = marker.start; columns = columns; first = first }

-- the columns before its content are taken
pub content_taken : (line : Line) (marker : ListMarker) (n columns : ℕ) (first : Line) → Some n ≡ content_columns marker.behind
    → columns ≡ marker_end line marker + n → first ≡ skip n marker.behind → Some (made marker columns first) ≡ item_of line marker
unfolding item_at
content_taken line marker n columns first e f g =
    ap (λ (k : ℕ). Some (made marker k first)) f
    ∙ (ap (λ (l : Line). Some (made marker (marker_end line marker + n) l)) g
    ∙ (ap (option_map (item_at line marker)) e ∙ item_by_columns line marker))

pub no_content : (line : Line) (marker : ListMarker) → None ≡ content_columns marker.behind → None ≡ item_of line marker
no_content line marker e = ap (option_map (item_at line marker)) e ∙ item_by_columns line marker

-- the columns up to a marker's content
pub end_is : (line : Line) (marker : ListMarker) (margin size n : ℕ) → margin ≡ indent line
    → size + length marker.behind ≡ length (after_indent line) → margin + size + n ≡ marker_end line marker + n
unfolding marker_end
end_is line marker margin size n e f = omega (arith, e, f)

-- the columns before a marker
pub margin_is : (line : Line) (margin : ℕ) → margin ≡ min 3 (indent line) → not (nat_le (indent line) 3) ≡ false
    → (margin ≡ indent line) × (margin ≤ 3)
margin_is line margin e f =
    let near : indent line ≤ 3 = grind (arith, nat_tests) in
    (omega (arith, clamps, e), omega (arith, clamps, e))

-- ---- bullets, and delimiters behind numbers

pub one_cell : (from next : Position) (c : ℕ) → IsPlain from → Some c ≡ first from.rest → next ≡ after_next from
    → length (left_of from) ≡ suc (length (left_of next))
one_cell from next c plain e f = ap length (front_cell from next c plain e f)

abbrev if_marker : ListKind → ℕ → Line → Bool → Option ListMarker
if_marker kind start rest b = elim b [ true ↦ Some (record { kind = kind; start = start; behind = rest }) | false ↦ None ]

pub no_bullet_at_end : (from : Position) → IsPlain from → None ≡ first from.rest → None ≡ bullet_marker (left_of from)
unfolding bullet_marker
no_bullet_at_end from plain e = sym (ap bullet_marker (front_end from plain e))

pub bullet_at : (from next : Position) (c : ℕ) (b : Bool) → IsPlain from → Some c ≡ first from.rest → next ≡ after_next from
    → one_of (codes "-+*") c ≡ b →
    if_marker (Bullet c) 0 (left_of next) b ≡ bullet_marker (left_of from)
unfolding bullet_marker
bullet_at from next c b plain e f g = sym (ap bullet_marker (front_cell from next c plain e f)
    ∙ ap (if_marker (Bullet c) 0 (left_of next)) g)

pub no_delimiter_at_end : (n : ℕ) (from : Position) → IsPlain from → None ≡ first from.rest → None ≡ ordered_marker n (left_of from)
unfolding ordered_marker
no_delimiter_at_end n from plain e = sym (ap (ordered_marker n) (front_end from plain e))

pub delimiter_at : (n : ℕ) (from next : Position) (c : ℕ) (b : Bool) → IsPlain from → Some c ≡ first from.rest → next ≡ after_next from
    → one_of (codes ".)") c ≡ b →
    if_marker (Ordered c) n (left_of next) b ≡ ordered_marker n (left_of from)
unfolding ordered_marker
delimiter_at n from next c b plain e f g = sym (ap (ordered_marker n) (front_cell from next c plain e f)
    ∙ ap (if_marker (Ordered c) n (left_of next)) g)

-- ---- digits

digit_is : (c : ℕ) → digit_value c < 10 → is_ascii_digit c ≡ true
digit_is c h = grind (arith, nat_tests)

no_digit_is : (c : ℕ) → (digit_value c < 10 → ⊥) → is_ascii_digit c ≡ false
no_digit_is c h = grind (arith, nat_tests)

pub no_digits_at_end : (from : Position) → IsPlain from → None ≡ first from.rest → digits_of (left_of from) ≡ []
unfolding digits_of
no_digits_at_end from plain e = ap digits_of (front_end from plain e)

abbrev digits_by : Cell → Line → Bool → Text
digits_by cell rest b = elim b [ true ↦ cell.char ∷ digits_of rest | false ↦ [] ]

pub no_digit_at : (from : Position) (c : ℕ) → IsPlain from → Some c ≡ first from.rest → (digit_value c < 10 → ⊥)
    → digits_of (left_of from) ≡ []
unfolding digits_of
no_digit_at from c plain e h =
    ap digits_of (front_cell from (after_next from) c plain e refl)
    ∙ ap (digits_by (record { char = c; width = width_at c from.column }) (left_of (after_next from))) (no_digit_is c h)

pub digit_at : (from next : Position) (c value : ℕ) → IsPlain from → Some c ≡ first from.rest → next ≡ after_next from → digit_value c < 10
    → value ≡ digit_value c →
    TakesDigit (left_of from) (left_of next) value
digit_at from next c value plain e f h g = record {
  cell = record { char = c; width = width_at c from.column };
  split = front_cell from
      next c plain e f;
  good = digit_is c h;
  value_is = g;
}

-- ---- a number, a digit at a time

-- the first number of more than n digits
pub tens : ℕ → ℕ
tens zero = 1
tens (suc n) = tens n * 10

tens_grow : (n m : ℕ) → tens n ≤ tens (n + m)
unfolding tens
tens_grow n zero = let none : n + 0 ≡ n = omega arith in let same : tens (n + 0) ≡ tens n = ap tens none in omega arith
tens_grow n (suc m) =
    let more : n + suc m ≡ suc (n + m) = omega arith in
    let same : tens (n + suc m) ≡ tens (n + m) * 10 = ap tens more in
    let before : tens n ≤ tens (n + m) = tens_grow n m in
    omega arith

-- so many digits were read, which write this number, and these cells are left
pub record HasRead (line rest : Line) (value count : ℕ) : Type 0 where
  pub all : count + length (digits_of rest) ≡ length (digits_of line)
  pub few : count ≤ 9
  pub number_is : fold (λ n c. n * 10 + digit_value c) value (digits_of rest) ≡ number 10 (digits_of line)
  pub small : value < tens count
  pub split : rest ≡ drop count line
  pub size : count + length rest ≡ length line

pub none_read : (line : Line) → HasRead line line 0 0
unfolding number tens
none_read line = record { all = omega arith; few = omega arith; number_is = refl; small = omega arith; split = refl; size = omega arith }

one_digit : (line rest : Line) (value : ℕ) → (t : TakesDigit line rest value) → digits_of line ≡ t.cell.char ∷ digits_of rest
unfolding digits_of
one_digit line rest value t = ap digits_of t.split ∙ ap (digits_by t.cell rest) t.good

drop_one_more : (n : ℕ) (line rest : Line) (cell : Cell) → cell ∷ rest ≡ drop n line → rest ≡ drop (suc n) line
drop_one_more zero [] rest cell e = absurd cc
drop_one_more zero (d ∷ line) rest cell e = cc
drop_one_more (suc n) [] rest cell e = absurd cc
drop_one_more (suc n) (d ∷ line) rest cell e = drop_one_more n line rest cell e

pub digit_value_is_small : (line rest : Line) (value : ℕ) → TakesDigit line rest value → value < 10
digit_value_is_small line rest value t = small t.cell.char value t.good t.value_is
  where
    small : (c v : ℕ) → is_ascii_digit c ≡ true → v ≡ digit_value c → v < 10
    small c v e f = grind (arith, nat_tests)

pub one_more_read : (line now rest : Line) (value count digit : ℕ) → HasRead line now value count → TakesDigit now rest digit → count < 9
    → HasRead line rest (value * 10 + digit) (count + 1)
unfolding tens
one_more_read line now rest value count digit h t more =
    let one = one_digit now rest digit t in
    let longer : length (digits_of now) ≡ suc (length (digits_of rest)) = ap length one in
    let cells : length now ≡ suc (length rest) = ap length t.split in
    let d : digit < 10 = digit_value_is_small now rest digit t in
    let v : value < tens count = h.small in
    let next : count + 1 ≡ suc count = omega arith in
    let power : tens (count + 1) ≡ tens count * 10 = ap tens next in
    record {
      all = omega (arith, h.all, longer);
      few = omega arith;
      number_is = ap (λ k. fold (λ n c. n * 10 + digit_value c) (value * 10 + k) (digits_of rest)) t.value_is
          ∙ sym (ap (fold (λ n c. n * 10 + digit_value c) value) one) ∙ h.number_is;
      small = omega arith;
      split = drop_one_more count line rest t.cell (sym t.split ∙ h.split) ∙ ap (λ n. drop n line) (sym next);
      size = omega (arith, h.size, cells);
    }

pub too_many_read : (line now rest : Line) (value count digit : ℕ) → HasRead line now value count → TakesDigit now rest digit → 9 ≤ count
    → 9 < length (digits_of line)
too_many_read line now rest value count digit h t more =
    let longer : length (digits_of now) ≡ suc (length (digits_of rest)) = ap length (one_digit now rest digit t) in
    omega (arith, h.all, longer)

pub read_is_small : (line now : Line) (value count : ℕ) → HasRead line now value count → count < 9 → value < 100000000
unfolding tens
read_is_small line now value count h less =
    let all : count + (8 - count) ≡ 8 = omega arith in
    let eight : tens (count + (8 - count)) ≡ tens 8 = ap tens all in
    let most : tens count ≤ tens (count + (8 - count)) = tens_grow count (8 - count) in
    let v : value < tens count = h.small in
    omega arith
