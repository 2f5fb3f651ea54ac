-- The place behind the spaces and tabs that are next.
use Rattle.std.proofs.Common.{◌≡◌, ℕ, zero, suc, ◌+◌, ◌-◌, ◌*◌, ◌<◌, ◌≤◌, Bool, true, false, List, [], ◌∷◌, ◌++◌, length, chars, refl}
use Rattle.std.proofs.Common.{ap, sym, ◌∙◌, arith, Some, length-append}
use Rattle.std.specs.Prelude.{◌&&◌}
use Rattle.std.specs.Char.{encode_utf8, len_utf8}
use Rattle.std.proofs.lemmas.Str.{length-encode, len_utf8_bounds}
use Rattle.std.proofs.lemmas.Bool.Decides.{nat_tests}
use Rattle.doc_rules.specs.Characters.{Text, is_space_or_tab}
use Rattle.doc_rules.specs.Parsers.{is_nothing}
use Rattle.doc_rules.specs.Columns.{Line, width_at, columns_from, cell_of, cells_from, text_of, is_gap, spaces, indent, after_indent}
use Rattle.doc_rules.specs.Columns.{is_blank_line}
use Rattle.doc_lines.specs.Cursors.{Position, position_at, first, behind, skipped_in, skipped, passed_in, passed, cells_at, left_of}
use Rattle.doc_lines.specs.Cursors.{IsWithin, IsSoundAt, IsSound, IsAhead}
use Rattle.doc_lines.proofs.CursorLaws.{width_in_tab, indent_spaces, tab_in_front, no_step, whole_step, width_le, behind_is, sound_behind}

-- ---- steps

abbrev passed_choice : Bool → Position → ℕ → Text → Position
passed_choice g from c rest = elim g [ true ↦ passed_in (behind from c rest) rest | false ↦ from ]

pub passed_gap : (from : Position) (c : ℕ) (rest : Text) → is_space_or_tab c ≡ true
    → passed_in from (c ∷ rest) ≡ passed_in (behind from c rest) rest
unfolding passed_in
passed_gap from c rest gap = ap (λ (g : Bool). passed_choice g from c rest) gap

pub passed_other : (from : Position) (c : ℕ) (rest : Text) → is_space_or_tab c ≡ false → passed_in from (c ∷ rest) ≡ from
unfolding passed_in
passed_other from c rest other = ap (λ (g : Bool). passed_choice g from c rest) other

-- ---- a space or a tab further on, whole or in part, the same place follows

pub passed_behind : (from : Position) (c : ℕ) (rest : Text) → from.rest ≡ c ∷ rest → is_space_or_tab c ≡ true
    → passed (behind from c rest) ≡ passed from
passed_behind from c rest e gap = sym (ap (passed_in from) e ∙ passed_gap from c rest gap)

pub passed_part : (from : Position) (n c : ℕ) (rest : Text) → from.rest ≡ c ∷ rest → is_space_or_tab c ≡ true → 0 < n
    → n < width_at c from.column
    → passed (record { place = from.place; column = from.column + n; in_tab = true; rest = from.rest }) ≡ passed from
passed_part from n c rest e gap more less =
    let part : Position = record { place = from.place; column = from.column + n; in_tab = true; rest = from.rest } in
    let far : from.column + n + width_at c (from.column + n) ≡ from.column + width_at c from.column
    = (width_in_tab c from.column n gap more less).2 in
    ap (passed_in part) e ∙ passed_gap part c rest gap
    ∙ ap (λ k. passed_in (record { place = from.place + len_utf8 c; column = k; in_tab = false; rest = rest }) rest) far
    ∙ sym (ap (passed_in from) e ∙ passed_gap from c rest gap)

-- ---- the column of the text

plain_column : (rest : Text) (from : Position) → (passed_in from rest).column ≡ from.column + indent (cells_from from.column rest)
unfolding passed_in columns_from cell_of indent
plain_column [] from = omega arith
plain_column (c ∷ rest) from = at (plain_column rest (behind from c rest)) (is_space_or_tab c)
  where
    at : (passed_in (behind from c rest) rest).column
        ≡ from.column + width_at c from.column + indent (cells_from (from.column + width_at c from.column) rest)
        → (g : Bool) → (passed_choice g from c rest).column
        ≡ from.column + (elim g [
          | true ↦ width_at c from.column + indent (cells_from (from.column + width_at c from.column) rest)
          | false ↦ 0
        ])
    at there true = omega (arith, there)
    at there false = omega arith

column_by_tab : (b : Bool) (from : Position) → from.in_tab ≡ b → IsSoundAt b from.place from.column from.rest
    → (passed from).column ≡ from.column + indent (left_of from)
column_by_tab true from inside sound =
    let front = tab_in_front from.rest sound.0 in
    let w : ℕ = width_at 9 from.column in
    let behind_it = plain_column front.0 (behind from 9 front.0) in
    let spaced = indent_spaces w (cells_from (from.column + w) front.0) in
    let line : indent (left_of from) ≡ indent (spaces w ++ cells_from (from.column + w) front.0)
    = ap (λ (b : Bool). indent (cells_at b from.column from.rest)) inside ∙ ap (λ text. indent (cells_at true from.column text)) front.1 in
    let there : (passed from).column ≡ (passed_in (behind from 9 front.0) front.0).column
    = ap (λ (p : Position). p.column) (ap (passed_in from) front.1 ∙ passed_gap from 9 front.0 refl) in
    omega (arith, there, behind_it, spaced, line)
column_by_tab false from outside sound = plain_column from.rest from
    ∙ ap (λ (b : Bool). from.column + indent (cells_at b from.column from.rest)) (sym outside)

pub column_of_passed : (from : Position) → IsSound from → (passed from).column ≡ from.column + indent (left_of from)
column_of_passed from sound = column_by_tab from.in_tab from refl sound

-- ---- what is left there

after_spaces : (w : ℕ) (line : Line) → after_indent (spaces w ++ line) ≡ after_indent line
unfolding after_indent
after_spaces zero line = refl
after_spaces (suc w) line = after_spaces w line

-- such a place is plain, and what is left there stands behind the indentation
plain_left : (rest : Text) (from : Position) → from.in_tab ≡ false → from.rest ≡ rest
    → ((passed_in from rest).in_tab ≡ false)
    × (cells_from (passed_in from rest).column (passed_in from rest).rest ≡ after_indent (cells_from from.column rest))
unfolding passed_in columns_from cell_of after_indent
plain_left [] from plain here = (plain, ap (cells_from from.column) here)
plain_left (c ∷ rest) from plain here = at (plain_left rest (behind from c rest) refl refl) (is_space_or_tab c)
  where
    at : ((passed_in (behind from c rest) rest).in_tab ≡ false)
        × (cells_from (passed_in (behind from c rest) rest).column (passed_in (behind from c rest) rest).rest
        ≡ after_indent (cells_from (from.column + width_at c from.column) rest)) → (g : Bool)
        → ((passed_choice g from c rest).in_tab ≡ false)
        × (cells_from (passed_choice g from c rest).column (passed_choice g from c rest).rest
        ≡ (elim g [
          | true ↦ after_indent (cells_from (from.column + width_at c from.column) rest)
          | false
              ↦ cells_from from.column (c ∷ rest)
        ]))
    at there true = there
    at there false = (plain, ap (cells_from from.column) here)

left_by_tab : (b : Bool) (from : Position) → from.in_tab ≡ b → IsSoundAt b from.place from.column from.rest
    → ((passed from).in_tab ≡ false) × (cells_from (passed from).column (passed from).rest ≡ after_indent (left_of from))
left_by_tab true from inside sound =
    let front = tab_in_front from.rest sound.0 in
    let w : ℕ = width_at 9 from.column in
    let there = plain_left front.0 (behind from 9 front.0) refl refl in
    let same : passed from ≡ passed_in (behind from 9 front.0) front.0 = ap (passed_in from) front.1 ∙ passed_gap from 9 front.0 refl in
    let line : after_indent (left_of from) ≡ after_indent (cells_from (from.column + w) front.0)
    = ap (λ (b : Bool). after_indent (cells_at b from.column from.rest)) inside
    ∙ ap (λ text. after_indent (cells_at true from.column text)) front.1 ∙ after_spaces w (cells_from (from.column + w) front.0) in
    (ap (λ (p : Position). p.in_tab) same ∙ there.0, ap (λ (p : Position). cells_from p.column p.rest) same ∙ there.1 ∙ sym line)
left_by_tab false from outside sound =
    let there = plain_left from.rest from outside refl in
    (there.0, there.1 ∙ ap (λ (b : Bool). after_indent (cells_at b from.column from.rest)) (sym outside))

pub plain_at_passed : (from : Position) → IsSound from
    → ((passed from).in_tab ≡ false) × (cells_from (passed from).column (passed from).rest ≡ after_indent (left_of from))
plain_at_passed from sound = left_by_tab from.in_tab from refl sound

-- the text of its cells is the text
pub text_of_cells : (at : ℕ) (text : Text) → text_of (cells_from at text) ≡ text
unfolding columns_from cell_of text_of
text_of_cells at [] = refl
text_of_cells at (c ∷ rest) = ap (λ more. c ∷ more) (text_of_cells (at + width_at c at) rest)

pub text_at_passed : (from : Position) → IsSound from → (passed from).rest ≡ text_of (after_indent (left_of from))
text_at_passed from sound = sym (ap text_of (sym (plain_at_passed from sound).1) ∙ text_of_cells (passed from).column (passed from).rest)

-- ---- a blank line has no text

blank_by_text : (line : Line) → is_nothing (text_of (after_indent line)) ≡ is_blank_line line
unfolding after_indent text_of
blank_by_text [] = refl
blank_by_text (cell ∷ rest) = at (blank_by_text rest) (is_gap cell)
  where
    at : is_nothing (text_of (after_indent rest)) ≡ is_blank_line rest → (g : Bool) →
        is_nothing (text_of (elim g [ true ↦ after_indent rest | false ↦ cell ∷ rest ])) ≡ (g && is_blank_line rest)
    at behind true = behind
    at behind false = refl

pub blank_is : (from : Position) → IsSound from → is_nothing (passed from).rest ≡ is_blank_line (left_of from)
blank_is from sound = ap is_nothing (text_at_passed from sound) ∙ blank_by_text (left_of from)

-- ---- it is a place that a cursor takes

sound_in : (rest : Text) (from : Position) → from.column ≤ 4 * from.place
    → (passed_in from rest).column ≤ 4 * (passed_in from rest).place
unfolding passed_in
sound_in [] from h = h
sound_in (c ∷ rest) from h =
    let wide : width_at c from.column ≤ 4 = width_le c from.column in
    let some : 1 ≤ len_utf8 c = (len_utf8_bounds c).0 in
    at (sound_in rest (behind from c rest) (omega (arith, wide, some, h))) (is_space_or_tab c)
  where
    at : (passed_in (behind from c rest) rest).column ≤ 4 * (passed_in (behind from c rest) rest).place → (g : Bool)
        → (passed_choice g from c rest).column ≤ 4 * (passed_choice g from c rest).place
    at there true = there
    at there false = h

sound_by_tab : (b : Bool) (from : Position) → IsSoundAt b from.place from.column from.rest
    → (passed from).column ≤ 4 * (passed from).place
sound_by_tab true from sound =
    let front = tab_in_front from.rest sound.0 in
    let there = sound_in front.0 (behind from 9 front.0) (let far : from.column + width_at 9 from.column ≤ 4 * from.place + 4 = sound.1 in
    omega (arith, far)) in
    let same : passed from ≡ passed_in (behind from 9 front.0) front.0 = ap (passed_in from) front.1 ∙ passed_gap from 9 front.0 refl in
    let columns = ap (λ (p : Position). p.column) same in
    let places = ap (λ (p : Position). p.place) same in
    omega (arith, there, columns, places)
sound_by_tab false from sound = sound_in from.rest from sound

pub sound_at_passed : (from : Position) → IsSound from → (passed from).column ≤ 4 * (passed from).place
sound_at_passed from sound = sound_by_tab from.in_tab from sound

-- nothing is left to be passed there
pub passed_twice : (rest : Text) (from : Position) → from.rest ≡ rest → passed (passed_in from rest) ≡ passed_in from rest
unfolding passed_in
passed_twice [] from e = ap (passed_in from) e
passed_twice (c ∷ rest) from e = at (passed_twice rest (behind from c rest) refl) (is_space_or_tab c) refl
  where
    at : passed (passed_in (behind from c rest) rest) ≡ passed_in (behind from c rest) rest → (g : Bool) → is_space_or_tab c ≡ g
        → passed (passed_choice g from c rest) ≡ passed_choice g from c rest
    at there true gap = there
    at there false other = ap (passed_in from) e ∙ passed_other from c rest other

-- ---- skipping all of the indentation

plain_all : (rest : Text) (n : ℕ) (from : Position) → from.rest ≡ rest → indent (cells_from from.column rest) ≤ n
    → passed_in from rest ≡ skipped_in from n rest
unfolding passed_in skipped_in columns_from cell_of indent
plain_all [] n from e h = refl
plain_all (c ∷ rest) n from e h = at (λ k less. plain_all rest k (behind from c rest) refl less) (is_space_or_tab c) refl h
  where
    at : ((k : ℕ) → indent (cells_from (from.column + width_at c from.column) rest) ≤ k
        → passed_in (behind from c rest) rest ≡ skipped_in (behind from c rest) k rest) → (g : Bool) → is_space_or_tab c ≡ g
        → (elim g [ true ↦ width_at c from.column + indent (cells_from (from.column + width_at c from.column) rest) | false ↦ 0 ]) ≤ n
        → passed_choice g from c rest ≡ skipped_in from n (c ∷ rest)
    at next true gap fits =
        let some : 0 < width_at c from.column = grind (arith, nat_tests) in
        next (n - width_at c from.column) (omega (arith, fits))
        ∙ sym (whole_step from n c rest gap (omega (arith, fits, some)) (omega (arith, fits)))
    at next false other fits = sym (no_step from n c rest other)

all_by_tab : (b : Bool) (n : ℕ) (from : Position) → from.in_tab ≡ b → IsSoundAt b from.place from.column from.rest
    → indent (left_of from) ≤ n → passed from ≡ skipped n from
all_by_tab true n from inside sound h =
    let front = tab_in_front from.rest sound.0 in
    let w : ℕ = width_at 9 from.column in
    let some : 0 < width_at 9 from.column = grind (arith, nat_tests) in
    let spaced = indent_spaces w (cells_from (from.column + w) front.0) in
    let line : indent (left_of from) ≡ indent (spaces w ++ cells_from (from.column + w) front.0)
    = ap (λ (b : Bool). indent (cells_at b from.column from.rest)) inside ∙ ap (λ text. indent (cells_at true from.column text)) front.1 in
    ap (passed_in from) front.1 ∙ passed_gap from 9 front.0 refl
    ∙ plain_all front.0 (n - w) (behind from 9 front.0) refl (omega (arith, h, spaced, line))
    ∙ sym (ap (skipped_in from n) front.1 ∙ whole_step from n 9 front.0 refl (omega (arith, h, spaced, line, some))
    (omega (arith, h, spaced, line)))
all_by_tab false n from outside sound h =
    plain_all from.rest n from refl (let same : indent (cells_from from.column from.rest) ≡ indent (left_of from)
    = ap (λ (b : Bool). indent (cells_at b from.column from.rest)) (sym outside) in omega (arith, same, h))

pub all_skipped : (n : ℕ) (from : Position) → IsSound from → indent (left_of from) ≤ n → passed from ≡ skipped n from
all_skipped n from sound h = all_by_tab from.in_tab n from refl sound h

-- ---- what a cursor knows of the text

-- the column of the text, which is that of this place
pub text_column_is : (line_length : ℕ) (text : List ℕ) (column : ℕ) (from now : Position) → from ≡ now → IsSound from
    → IsAhead line_length text column from → column ≡ from.column + indent (left_of now)
text_column_is line_length text column from now e sound ahead = ap (λ (p : Position). p.column) ahead.1 ∙ column_of_passed from sound
    ∙ ap (λ (p : Position). from.column + indent (left_of p)) e

pub text_is : (line_length : ℕ) (text : List ℕ) (column : ℕ) (from now : Position) → from ≡ now → IsSound from
    → IsAhead line_length text column from → chars text ≡ text_of (after_indent (left_of now))
text_is line_length text column from now e sound ahead = ap (λ (p : Position). p.rest) ahead.1 ∙ text_at_passed from sound
    ∙ ap (λ (p : Position). text_of (after_indent (left_of p))) e

pub blank_by_chars : (line_length : ℕ) (text : List ℕ) (column : ℕ) (from now : Position) → from ≡ now → IsSound from
    → IsAhead line_length text column from → is_nothing (chars text) ≡ is_blank_line (left_of now)
blank_by_chars line_length text column from now e sound ahead = ap (λ (p : Position). is_nothing p.rest) ahead.1 ∙ blank_is from sound
    ∙ ap (λ (p : Position). is_blank_line (left_of p)) e

pub line_behind : (line_length : ℕ) (text : List ℕ) (column : ℕ) (from now : Position) → from ≡ now → IsSound from
    → IsAhead line_length text column from → cells_from column (chars text) ≡ after_indent (left_of now)
line_behind line_length text column from now e sound ahead = ap (λ (p : Position). cells_from p.column p.rest) ahead.1
    ∙ (plain_at_passed from sound).1 ∙ ap (λ (p : Position). after_indent (left_of p)) e

pub sound_at_text : (line_length : ℕ) (text : List ℕ) (column : ℕ) (from : Position) → IsSound from
    → IsAhead line_length text column from → column ≤ 4 * (line_length - length text)
sound_at_text line_length text column from sound ahead =
    let columns : column ≡ (passed from).column = ap (λ (p : Position). p.column) ahead.1 in
    let places : line_length - length text ≡ (passed from).place = ap (λ (p : Position). p.place) ahead.1 in
    omega (arith, columns, places, sound_at_passed from sound)

pub ahead_at_text : (line_length : ℕ) (text : List ℕ) (column : ℕ) (from : Position) → IsAhead line_length text column from
    → IsAhead line_length text column (position_at line_length text column false)
ahead_at_text line_length text column from ahead =
    (ahead.0, ahead.1 ∙ sym (ap passed ahead.1 ∙ passed_twice from.rest from refl))

-- a space or a tab further on, in part or as a whole, the same text follows
pub sound_part : (b : Bool) (place column n c : ℕ) (text rest : Text) → IsSoundAt b place column text → text ≡ c ∷ rest
    → is_space_or_tab c ≡ true → 0 < n → n < width_at c column → IsSoundAt true place (column + n) text
sound_part b place column n c text rest sound e gap more less =
    let part = width_in_tab c column n gap more less in
    let tab : width_at 9 (column + n) ≡ width_at c (column + n) = sym (ap (λ k. width_at k (column + n)) part.0) in
    let wide : width_at c column ≡ width_at 9 column = ap (λ k. width_at k column) part.0 in
    let most : width_at c column ≤ 4 = width_le c column in (
      ap first e ∙ ap (λ k. Some k) part.0,
      at b (width_at 9 column) (width_at c column) (width_at 9 (column + n)) refl wide most
          (let there = part.2 in omega (arith, there, tab)) sound,
    )
  where
    at : (b : Bool) (w v u : ℕ) → w ≡ width_at 9 column → v ≡ w → v ≤ 4 → column + n + u ≡ column + v → IsSoundAt b place column text
        → column + n + u ≤ 4 * place + 4
    at true w v u e f most g h = let there : column + width_at 9 column ≤ 4 * place + 4 = h.1 in omega (arith, e, f, g, there)
    at false w v u e f most g h = let there : column ≤ 4 * place = h in omega (arith, most, g, there)

pub ahead_part : (line_length : ℕ) (text : List ℕ) (text_column : ℕ) (from : Position) (n c : ℕ) (rest : Text) → from.rest ≡ c ∷ rest
    → is_space_or_tab c ≡ true → 0 < n → n < width_at c from.column → IsAhead line_length text text_column from
    → IsAhead line_length text text_column
    (record { place = from.place; column = from.column + n; in_tab = true; rest = from.rest })
ahead_part line_length text text_column from n c rest e gap more less ahead =
    (ahead.0, ahead.1 ∙ sym (passed_part from n c rest e gap more less))

pub ahead_behind : (line_length : ℕ) (bs after text : List ℕ) (column text_column c w : ℕ) (in_tab : Bool) → length bs ≤ line_length
    → bs ≡ encode_utf8 c ++ after → chars bs ≡ c ∷ chars after → w ≡ width_at c column → is_space_or_tab c ≡ true
    → IsAhead line_length text text_column (position_at line_length bs column in_tab)
    → IsAhead line_length text text_column (position_at line_length after (column + w) false)
ahead_behind line_length bs after text column text_column c w in_tab within e f g gap ahead =
    let there : position_at line_length after (column + w) false ≡ behind (position_at line_length bs column in_tab) c (chars after)
    = ap (λ k. position_at line_length after (column + k) false) g ∙ behind_is line_length bs after column c in_tab within e in
    (ahead.0, ahead.1 ∙ sym (ap passed there ∙ passed_behind (position_at line_length bs column in_tab) c (chars after) f gap))

pub within_behind : (line_length : ℕ) (bs after : List ℕ) (column c w : ℕ) (in_tab : Bool) → IsWithin line_length bs
    → IsSound (position_at line_length bs column in_tab) → bs ≡ encode_utf8 c ++ after → chars bs ≡ c ∷ chars after
    → w ≡ width_at c column → IsWithin line_length after × (column + w ≤ 4 * (line_length - length after))
within_behind line_length bs after column c w in_tab within sound e f g =
    let bytes : length bs ≡ len_utf8 c + length after = ap length e ∙ length-append (encode_utf8 c) after
    ∙ ap (λ n. n + length after) (length-encode c) in
    let there = sound_behind in_tab (line_length - length bs) column c (len_utf8 c) (chars bs) (chars after) sound f
    (len_utf8_bounds c).0 in
    ((omega (arith, bytes, within.0), within.1), omega (arith, bytes, there, within.0, g))

-- ---- the search for the text

pub text_here : (line_length : ℕ) (bs : List ℕ) (column c : ℕ) (rest : Text) → chars bs ≡ c ∷ rest → is_space_or_tab c ≡ false
    → position_at line_length bs column false ≡ passed (position_at line_length bs column false)
text_here line_length bs column c rest e other = sym (ap (passed_in (position_at line_length bs column false)) e
    ∙ passed_other (position_at line_length bs column false) c rest other)

pub text_at_end : (line_length : ℕ) (bs : List ℕ) (column : ℕ) → chars bs ≡ []
    → position_at line_length bs column false ≡ passed (position_at line_length bs column false)
unfolding passed_in
text_at_end line_length bs column e = sym (ap (passed_in (position_at line_length bs column false)) e)

pub text_further : (line_length : ℕ) (bs after : List ℕ) (column c w : ℕ) → length bs ≤ line_length → bs ≡ encode_utf8 c ++ after
    → chars bs ≡ c ∷ chars after → w ≡ width_at c column → is_space_or_tab c ≡ true
    → passed (position_at line_length after (column + w) false) ≡ passed (position_at line_length bs column false)
text_further line_length bs after column c w within e f g gap =
    let there : position_at line_length after (column + w) false ≡ behind (position_at line_length bs column false) c (chars after)
    = ap (λ k. position_at line_length after (column + k) false) g ∙ behind_is line_length bs after column c false within e in
    ap passed there ∙ passed_behind (position_at line_length bs column false) c (chars after) f gap

pub fewer_left : (bs after : List ℕ) (column c w : ℕ) → bs ≡ encode_utf8 c ++ after → w ≡ width_at c column
    → (length after < length bs) × (column + w + 4 * length after ≤ column + 4 * length bs)
fewer_left bs after column c w e g =
    let bytes : length bs ≡ len_utf8 c + length after = ap length e ∙ length-append (encode_utf8 c) after
    ∙ ap (λ n. n + length after) (length-encode c) in
    let some : 1 ≤ len_utf8 c = (len_utf8_bounds c).0 in
    let wide : width_at c column ≤ 4 = width_le c column in
    (omega (arith, bytes, some), omega (arith, bytes, some, wide, g))
