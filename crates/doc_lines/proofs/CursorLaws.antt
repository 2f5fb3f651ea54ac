-- What skipping leaves of a line is what CommonMark's `skip` leaves of it.
use Rattle.std.proofs.Common.{◌≡◌, ℕ, zero, suc, ◌+◌, ◌-◌, ◌*◌, ◌%◌, ◌<◌, ◌≤◌, Bool, true, false, List, [], ◌∷◌, ◌++◌, length, chars, refl}
use Rattle.std.proofs.Common.{ap, sym, ◌∙◌, arith, inl, inr, Some, length-append}
use Rattle.std.specs.Prelude.{◌==◌, ◌&&◌, nat_lt, nat_le, min, if◌then◌else◌}
use Rattle.std.specs.Char.{encode_utf8, len_utf8}
use Rattle.std.proofs.lemmas.Str.{length-encode}
use Rattle.std.proofs.lemmas.Bool.{cases_Bool, cases_lt}
use Rattle.std.proofs.lemmas.Bool.Decides.{nat_tests}
use Rattle.std.proofs.Math.Nat.{min-eq_left, min-eq_right}
use Rattle.doc_rules.specs.Characters.{Text, is_space_or_tab}
use Rattle.doc_rules.specs.Columns.{Line, Cell, width_at, columns_from, cell_of, cells_from, spaces, skip, indent}
use Rattle.doc_rules.proofs.QuoteLaws.{skip_none}
use Rattle.doc_lines.specs.Cursors.{Position, position_at, first, behind, skipped_in, skipped, cells_at, left_of, IsSoundAt, IsSound}
use Rattle.doc_page_parts.proofs.Bools.{and_false}

-- ---- widths

-- a tab that is used in part has its other columns left
tab_width : (at n : ℕ) → n < 4 - at % 4 → 4 - (at + n) % 4 ≡ 4 - at % 4 - n
tab_width at n h = omega arith

pub width_in_tab : (c at n : ℕ) → is_space_or_tab c ≡ true → 0 < n → n < width_at c at
    → (c ≡ 9) × (width_at c (at + n) ≡ width_at c at - n) × (at + n + width_at c (at + n) ≡ at + width_at c at)
width_in_tab c at n gap more less = elim (cases_Bool (c == 9)) [
  | inl tab ↦
      let wide : (k : ℕ) → width_at c k ≡ 4 - k % 4 = λ k. ap (λ (b : Bool). if b then 4 - k % 4 else 1) tab in
      let here : n < 4 - at % 4 = omega (arith, wide at) in
      let there : 4 - (at + n) % 4 ≡ 4 - at % 4 - n = tab_width at n here in
      (grind (arith, nat_tests), omega (arith, wide at, wide (at + n)), omega (arith, wide at, wide (at + n)))
  | inr other ↦
      let one : width_at c at ≡ 1 = ap (λ (b : Bool). if b then 4 - at % 4 else 1) other in
      absurd (omega arith)
]

-- ---- skipping in lines

-- what `skip` leaves of a line by its two tests
abbrev skip_choice : Bool → Bool → ℕ → Cell → Line → Line
skip_choice t f n cell rest = elim t [
  | false ↦ cell ∷ rest
  | true ↦ elim f
      [ true ↦ skip (n - cell.width) rest | false ↦ spaces (cell.width - n) ++ rest ]
]

-- where skipping goes by its two tests
abbrev skipped_choice : Bool → Bool → Position → ℕ → ℕ → Text → Position
skipped_choice t f from n c rest = elim t [
  | false ↦ from
  | true ↦ elim f [
    | true ↦ skipped_in (behind from c rest) (n - width_at c from.column) rest
    | false ↦ record { place = from.place; column = from.column + n; in_tab = true; rest = from.rest }
  ]
]

abbrev space : Cell
space = record { char = 32; width = 1 }

skip_spaces : (w n : ℕ) (line : Line) → w ≤ n → skip n (spaces w ++ line) ≡ skip (n - w) line
unfolding skip
skip_spaces zero n line h = let same : n ≡ n - 0 = omega arith in ap (λ k. skip k line) same
skip_spaces (suc w) zero line h = absurd (omega arith)
skip_spaces (suc w) (suc n) line h =
    let one : suc n - 1 ≡ n = omega arith in
    let rest : n - w ≡ suc n - suc w = omega arith in
    let more : nat_lt 0 (suc n) ≡ true = grind (arith, nat_tests) in
    let fits : nat_le 1 (suc n) ≡ true = grind (arith, nat_tests) in
    ap (λ (t : Bool). skip_choice t (nat_le 1 (suc n)) (suc n) space (spaces w ++ line)) more
    ∙ ap (λ (f : Bool). skip_choice true f (suc n) space (spaces w ++ line)) fits
    ∙ ap (λ k. skip k (spaces w ++ line)) one ∙ skip_spaces w n line (omega arith) ∙ ap (λ k. skip k line) rest

skip_in_spaces : (n w : ℕ) (line : Line) → n ≤ w → skip n (spaces w ++ line) ≡ spaces (w - n) ++ line
unfolding skip
skip_in_spaces zero w line h = let same : w ≡ w - 0 = omega arith in skip_none (spaces w ++ line) ∙ ap (λ k. spaces k ++ line) same
skip_in_spaces (suc n) zero line h = absurd (omega arith)
skip_in_spaces (suc n) (suc w) line h =
    let one : suc n - 1 ≡ n = omega arith in
    let rest : w - n ≡ suc w - suc n = omega arith in
    let more : nat_lt 0 (suc n) ≡ true = grind (arith, nat_tests) in
    let fits : nat_le 1 (suc n) ≡ true = grind (arith, nat_tests) in
    ap (λ (t : Bool). skip_choice t (nat_le 1 (suc n)) (suc n) space (spaces w ++ line)) more
    ∙ ap (λ (f : Bool). skip_choice true f (suc n) space (spaces w ++ line)) fits
    ∙ ap (λ k. skip k (spaces w ++ line)) one ∙ skip_in_spaces n w line (omega arith) ∙ ap (λ k. spaces k ++ line) rest

pub indent_spaces : (w : ℕ) (line : Line) → indent (spaces w ++ line) ≡ w + indent line
unfolding indent
indent_spaces zero line = omega arith
indent_spaces (suc w) line = let more : indent (spaces w ++ line) ≡ w + indent line = indent_spaces w line in omega arith

-- ---- what skipping leaves

-- what is left where not all of a space's or tab's columns are skipped
part_left : (from : Position) (n c : ℕ) (rest : Text) → from.rest ≡ c ∷ rest → is_space_or_tab c ≡ true → 0 < n
    → n < width_at c from.column →
    cells_at true (from.column + n) from.rest ≡ spaces (width_at c from.column - n)
    ++ cells_from (from.column + width_at c from.column) rest
unfolding columns_from cell_of
part_left from n c rest here gap more less =
    let w = width_in_tab c from.column n gap more less in
    ap (cells_at true (from.column + n)) here ∙ ap (λ k. spaces k ++ cells_from (from.column + n + width_at c (from.column + n)) rest) w.1
    ∙ ap (λ k. spaces (width_at c from.column - n) ++ cells_from k rest) w.2

plain_step : (c : ℕ) (rest : Text) (n : ℕ) (from : Position) → from.in_tab ≡ false → from.rest ≡ c ∷ rest
    → ((k : ℕ) (next : Position) → next.in_tab ≡ false → next.rest ≡ rest
    → left_of (skipped_in next k rest) ≡ skip k (cells_from next.column rest))
    → (t : Bool) → t ≡ (is_space_or_tab c && nat_lt 0 n) → (f : Bool) → f ≡ nat_le (width_at c from.column) n
    → left_of (elim t [
      | false ↦ from
      | true ↦ elim f [
        | true ↦ skipped_in (behind from c rest) (n - width_at c from.column) rest
        | false ↦ record { place = from.place; column = from.column + n; in_tab = true; rest = from.rest }
      ]
    ])
    ≡ elim t [
      | false ↦ cells_from from.column (c ∷ rest)
      | true ↦ elim f [
        | true ↦ skip (n - width_at c from.column) (cells_from (from.column + width_at c from.column) rest)
        | false ↦ spaces (width_at c from.column - n) ++ cells_from (from.column + width_at c from.column) rest
      ]
    ]
unfolding columns_from cell_of
plain_step c rest n from plain here next false t f fits = ap (λ (b : Bool). cells_at b from.column from.rest) plain
    ∙ ap (cells_at false from.column) here
plain_step c rest n from plain here next true t true fits = next (n - width_at c from.column) (behind from c rest) refl refl
plain_step c rest n from plain here next true t false fits = part_left from n c rest here (grind (arith, nat_tests))
    (grind (arith, nat_tests)) (grind (arith, nat_tests))

plain_left : (rest : Text) (n : ℕ) (from : Position) → from.in_tab ≡ false → from.rest ≡ rest
    → left_of (skipped_in from n rest) ≡ skip n (cells_from from.column rest)
unfolding skipped_in skip columns_from cell_of
plain_left [] n from plain here = ap (λ (b : Bool). cells_at b from.column from.rest) plain ∙ ap (cells_at false from.column) here
plain_left (c ∷ rest) n from plain here = plain_step c rest n from plain here (λ k next. plain_left rest k next)
    (is_space_or_tab c && nat_lt 0 n) refl (nat_le (width_at c from.column) n) refl

-- skipping stops inside this character, goes on behind it, or does not begin
part_step : (from : Position) (n c : ℕ) (rest : Text) → is_space_or_tab c ≡ true → 0 < n → n < width_at c from.column →
    skipped_in from n (c ∷ rest) ≡ record { place = from.place; column = from.column + n; in_tab = true; rest = from.rest }
unfolding skipped_in
part_step from n c rest gap more less =
    let goes : (is_space_or_tab c && nat_lt 0 n) ≡ true = grind (arith, nat_tests) in
    let part : nat_le (width_at c from.column) n ≡ false = grind (arith, nat_tests) in
    ap (λ (t : Bool). skipped_choice t (nat_le (width_at c from.column) n) from n c rest) goes
    ∙ ap (λ (f : Bool). skipped_choice true f from n c rest) part

pub whole_step : (from : Position) (n c : ℕ) (rest : Text) → is_space_or_tab c ≡ true → 0 < n → width_at c from.column ≤ n →
    skipped_in from n (c ∷ rest) ≡ skipped_in (behind from c rest) (n - width_at c from.column) rest
unfolding skipped_in
whole_step from n c rest gap more fits =
    let goes : (is_space_or_tab c && nat_lt 0 n) ≡ true = grind (arith, nat_tests) in
    let all : nat_le (width_at c from.column) n ≡ true = grind (arith, nat_tests) in
    ap (λ (t : Bool). skipped_choice t (nat_le (width_at c from.column) n) from n c rest) goes
    ∙ ap (λ (f : Bool). skipped_choice true f from n c rest) all

pub no_step : (from : Position) (n c : ℕ) (rest : Text) → is_space_or_tab c ≡ false → skipped_in from n (c ∷ rest) ≡ from
unfolding skipped_in
no_step from n c rest other =
    let stays : (is_space_or_tab c && nat_lt 0 n) ≡ false = ap (λ (b : Bool). b && nat_lt 0 n) other in
    ap (λ (t : Bool). skipped_choice t (nat_le (width_at c from.column) n) from n c rest) stays

none_in : (rest : Text) (from : Position) → skipped_in from 0 rest ≡ from
unfolding skipped_in
none_in [] from = refl
none_in (c ∷ rest) from = ap (λ (t : Bool). skipped_choice t (nat_le (width_at c from.column) 0) from 0 c rest)
    (and_false (is_space_or_tab c))

-- what is left of a tab and of what is behind it
abbrev behind_tab : ℕ → Text → Line
behind_tab at rest = cells_from (at + width_at 9 at) rest

tab_left : (rest : Text) (n : ℕ) (from : Position) → from.in_tab ≡ true → from.rest ≡ 9 ∷ rest →
    left_of (skipped_in from n (9 ∷ rest)) ≡ skip n (spaces (width_at 9 from.column) ++ behind_tab from.column rest)
tab_left rest n from inside here =
    let line : Line = spaces (width_at 9 from.column) ++ behind_tab from.column rest in
    let whole : left_of from ≡ line = ap (λ (b : Bool). cells_at b from.column from.rest) inside ∙ ap (cells_at true from.column) here in
    elim (cases_lt 0 n) [
      | inr none ↦
          let zero_is : n ≡ 0 = omega arith in
          ap (λ k. left_of (skipped_in from k (9 ∷ rest))) zero_is ∙ ap left_of (none_in (9 ∷ rest) from) ∙ whole
          ∙ sym (ap (λ k. skip k line) zero_is ∙ skip_none line)
      | inl more ↦ elim (cases_lt n (width_at 9 from.column)) [
        | inl less ↦
            ap left_of (part_step from n 9 rest refl more less) ∙ part_left from n 9 rest here refl more less
            ∙ sym (skip_in_spaces n (width_at 9 from.column) (behind_tab from.column rest) (omega arith))
        | inr fits ↦
            ap left_of (whole_step from n 9 rest refl more fits)
            ∙ plain_left rest (n - width_at 9 from.column) (behind from 9 rest) refl refl
            ∙ sym (skip_spaces (width_at 9 from.column) n (behind_tab from.column rest) fits)
      ]
    ]

pub tab_in_front : (text : Text) → first text ≡ Some 9 → (rest : Text) × (text ≡ 9 ∷ rest)
tab_in_front [] e = absurd cc
tab_in_front (c ∷ rest) e = (rest, let same : c ≡ 9 = cc in ap (λ d. d ∷ rest) same)

left_by_tab : (b : Bool) (n : ℕ) (from : Position) → from.in_tab ≡ b → IsSoundAt b from.place from.column from.rest
    → left_of (skipped n from) ≡ skip n (left_of from)
left_by_tab true n from inside sound =
    let front = tab_in_front from.rest sound.0 in
    ap (λ text. left_of (skipped_in from n text)) front.1 ∙ tab_left front.0 n from inside front.1
    ∙ sym (ap (λ (b : Bool). skip n (cells_at b from.column from.rest)) inside
    ∙ ap (λ text. skip n (cells_at true from.column text)) front.1)
left_by_tab false n from outside sound = plain_left from.rest n from outside refl
    ∙ sym (ap (λ (b : Bool). skip n (cells_at b from.column from.rest)) outside)

-- what is left behind spaces and tabs that are skipped is what CommonMark's `skip` leaves
pub left_of_skipped : (n : ℕ) (from : Position) → IsSound from → left_of (skipped n from) ≡ skip n (left_of from)
left_of_skipped n from sound = left_by_tab from.in_tab n from refl sound

-- ---- how many columns are skipped

least_more : (w n m : ℕ) → w ≤ n → min n (w + m) ≡ w + min (n - w) m
least_more w n m h = elim (cases_lt (w + m) n) [
  | inl more ↦ min-eq_right (omega arith) ∙ ap (λ k. w + k) (sym (min-eq_right (omega arith)))
  | inr less ↦ min-eq_left (omega arith) ∙ (let whole : n ≡ w + (n - w) = omega arith in whole
      ∙ ap (λ k. w + k) (sym (min-eq_left (omega arith))))
]

plain_column_step : (c : ℕ) (rest : Text) (n : ℕ) (from : Position)
    → ((k : ℕ) (next : Position) → next.in_tab ≡ false → next.rest ≡ rest
    → (skipped_in next k rest).column ≡ next.column + min k (indent (cells_from next.column rest)))
    → (g : Bool) → g ≡ is_space_or_tab c → (m : Bool) → m ≡ nat_lt 0 n → (f : Bool) → f ≡ nat_le (width_at c from.column) n
    → (skipped_choice (g && m) f from n c rest).column
    ≡ from.column + min n (elim g [
      | true ↦ width_at c from.column + indent (cells_from (from.column + width_at c from.column) rest)
      | false
          ↦ 0
    ])
plain_column_step c rest n from next false g m more f fits = let none : min n 0 ≡ 0 = min-eq_right (omega arith) in omega arith
plain_column_step c rest n from next true g false more f fits = let none : min n
    (width_at c from.column + indent (cells_from (from.column + width_at c from.column) rest))
    ≡ n = min-eq_left (grind (arith, nat_tests)) in grind (arith, nat_tests)
plain_column_step c rest n from next true g true more true fits =
    let there : (skipped_in (behind from c rest) (n - width_at c from.column) rest).column
    ≡ (from.column + width_at c from.column) + min (n - width_at c from.column)
    (indent (cells_from (from.column + width_at c from.column) rest)) = next (n - width_at c from.column) (behind from c rest) refl
    refl in
    let within : width_at c from.column ≤ n = grind (arith, nat_tests) in
    let least = least_more (width_at c from.column) n (indent (cells_from (from.column + width_at c from.column) rest)) within in
    omega (arith, there, least)
plain_column_step c rest n from next true g true more false fits =
    let less : n < width_at c from.column = grind (arith, nat_tests) in
    let least : min n (width_at c from.column + indent (cells_from (from.column + width_at c from.column) rest))
    ≡ n = min-eq_left (omega arith) in
    ap (λ k. from.column + k) (sym least)

plain_column : (rest : Text) (n : ℕ) (from : Position) → from.in_tab ≡ false → from.rest ≡ rest
    → (skipped_in from n rest).column ≡ from.column + min n (indent (cells_from from.column rest))
unfolding skipped_in columns_from cell_of indent
plain_column [] n from plain here = let none : min n 0 ≡ 0 = min-eq_right (omega arith) in omega arith
plain_column (c ∷ rest) n from plain here = plain_column_step c rest n from (λ k next. plain_column rest k next) (is_space_or_tab c) refl
    (nat_lt 0 n) refl (nat_le (width_at c from.column) n) refl

tab_column : (rest : Text) (n : ℕ) (from : Position) → (skipped_in from n (9 ∷ rest)).column
    ≡ from.column + min n (width_at 9 from.column + indent (cells_from (from.column + width_at 9 from.column) rest))
unfolding skipped_in columns_from cell_of indent
tab_column rest n from = plain_column_step 9 rest n from (λ k next. plain_column rest k next) true refl (nat_lt 0 n) refl
    (nat_le (width_at 9 from.column) n) refl

column_by_tab : (b : Bool) (n : ℕ) (from : Position) → from.in_tab ≡ b → IsSoundAt b from.place from.column from.rest
    → (skipped n from).column ≡ from.column + min n (indent (left_of from))
column_by_tab true n from inside sound =
    let front = tab_in_front from.rest sound.0 in
    let there = tab_column front.0 n from in
    let spaced = indent_spaces (width_at 9 from.column) (cells_from (from.column + width_at 9 from.column) front.0) in
    ap (λ text. (skipped_in from n text).column) front.1 ∙ there ∙ ap (λ k. from.column + min n k) (sym spaced)
    ∙ sym (ap (λ (b : Bool). from.column + min n (indent (cells_at b from.column from.rest))) inside
    ∙ ap (λ text. from.column + min n (indent (cells_at true from.column text))) front.1)
column_by_tab false n from outside sound = plain_column from.rest n from outside refl
    ∙ sym (ap (λ (b : Bool). from.column + min n (indent (cells_at b from.column from.rest))) outside)

-- as many columns are skipped as are asked for and there
pub columns_skipped : (n : ℕ) (from : Position) → IsSound from → (skipped n from).column ≡ from.column + min n (indent (left_of from))
columns_skipped n from sound = column_by_tab from.in_tab n from refl sound

-- ---- steps of the code

pub skipped_none : (from : Position) → skipped 0 from ≡ from
skipped_none from = none_in from.rest from

pub skipped_at_end : (n : ℕ) (from : Position) → from.rest ≡ [] → from ≡ skipped n from
unfolding skipped_in
skipped_at_end n from e = sym (ap (skipped_in from n) e)

pub skipped_at_other : (n c : ℕ) (rest : Text) (from : Position) → from.rest ≡ c ∷ rest → is_space_or_tab c ≡ false → from ≡ skipped n from
skipped_at_other n c rest from e other = sym (ap (skipped_in from n) e ∙ no_step from n c rest other)

pub skipped_part : (n c : ℕ) (rest : Text) (from : Position) → from.rest ≡ c ∷ rest → is_space_or_tab c ≡ true → 0 < n
    → n < width_at c from.column →
    skipped n from ≡ skipped (n - n) (record { place = from.place; column = from.column + n; in_tab = true; rest = from.rest })
skipped_part n c rest from e gap more less =
    let to : Position = record { place = from.place; column = from.column + n; in_tab = true; rest = from.rest } in
    let none : 0 ≡ n - n = omega arith in
    ap (skipped_in from n) e ∙ part_step from n c rest gap more less ∙ sym (skipped_none to) ∙ ap (λ k. skipped k to) none

pub skipped_whole : (n c : ℕ) (rest : Text) (from : Position) → from.rest ≡ c ∷ rest → is_space_or_tab c ≡ true → 0 < n
    → width_at c from.column ≤ n →
    skipped n from ≡ skipped (n - width_at c from.column) (behind from c rest)
skipped_whole n c rest from e gap more fits = ap (skipped_in from n) e ∙ whole_step from n c rest gap more fits

-- the place behind a character by the bytes that are left
pub behind_is : (line_length : ℕ) (bs after : List ℕ) (column c : ℕ) (in_tab : Bool) → length bs ≤ line_length
    → bs ≡ encode_utf8 c ++ after →
    position_at line_length after (column + width_at c column) false ≡ behind (position_at line_length bs column in_tab) c (chars after)
behind_is line_length bs after column c in_tab within e =
    let far : line_length - length after ≡ line_length - length bs + len_utf8 c = omega
    (arith, ap length e, length-append (encode_utf8 c) after, length-encode c) in
    ap (λ k. record { place = k; column = column + width_at c column; in_tab = false; rest = chars after }) far

pub width_le : (c at : ℕ) → width_at c at ≤ 4
width_le c at = grind (arith, nat_tests)

-- and it is one that a cursor takes
pub sound_behind : (b : Bool) (place column c m : ℕ) (text rest : Text) → IsSoundAt b place column text → text ≡ c ∷ rest → 1 ≤ m
    → column + width_at c column ≤ 4 * (place + m)
sound_behind true place column c m text rest sound e more =
    let same : first (c ∷ rest) ≡ Some 9 = ap first (sym e) ∙ sound.0 in
    let tab : c ≡ 9 = cc in
    let wide : width_at c column ≡ width_at 9 column = ap (λ d. width_at d column) tab in
    let within : column + width_at 9 column ≤ 4 * place + 4 = sound.1 in
    omega arith
sound_behind false place column c m text rest sound e more =
    let within : column ≤ 4 * place = sound in
    let wide : width_at c column ≤ 4 = width_le c column in
    omega arith

-- what a whole skip says
pub skip_ends : (n left : ℕ) (old new : Position) → IsSound old → left ≤ n → new ≡ skipped n old → new.column + left ≡ old.column + n →
    (left_of new ≡ skip n (left_of old)) × (n - left ≡ min n (indent (left_of old)))
skip_ends n left old new sound within there column =
    let whole : new.column ≡ old.column + min n (indent (left_of old)) = ap (λ (p : Position). p.column) there
    ∙ columns_skipped n old sound in
    (ap left_of there ∙ left_of_skipped n old sound, omega arith)
