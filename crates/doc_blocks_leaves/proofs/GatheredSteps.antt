-- The text that is gathered for a leaf: it grows at its end, and what is kept is a front of it.
use Rattle.std.proofs.Common.{rules, ◌≡◌, ℕ, zero, suc, ◌+◌, ◌-◌, ◌≤◌, true, false, List, [], ◌∷◌, ◌++◌, length, chars, refl, ap}
use Rattle.std.proofs.Common.{sym, ◌∙◌, arith, subst, append_assoc, length-append, inl, inr}
use Rattle.std.specs.Prelude.{replicate, slice_index, Result, Ok, Err, OnOk}
use Rattle.std.specs.Str.{IsUtf8, IsCharBoundary}
use Rattle.std.proofs.lemmas.Bool.{cases_lt}
use Rattle.std.proofs.lemmas.List.{get_or_append_left}
use Rattle.std.proofs.lemmas.Str.{IsCharBoundary-at_seam, chars-append, chars-IsAscii}
use Rattle.doc_rules.specs.Characters.{Text}
use Rattle.doc_rules.specs.Columns.{Line, width_at, cells_from, text_of, spaces}
use Rattle.doc_lines.specs.Cursors.{Position, behind_first, after_next, cells_at, left_of}
use Rattle.doc_lines.proofs.AheadLaws.{text_of_cells}

-- ---- what is kept

-- a place in a text is one in the text that goes on behind it
pub boundary_stays : (old more new : List ℕ) (n : ℕ) → new ≡ old ++ more → IsUtf8 more → IsCharBoundary old n → IsCharBoundary new n
boundary_stays old more new n e u b = subst (λ (bytes : List ℕ). IsCharBoundary bytes n) (sym e) (elim (cases_lt n (length old)) [
  | inl less ↦ (
    let whole : length (old ++ more) ≡ length old + length more = length-append old more in omega arith,
    λ h big.
        let same : slice_index (old ++ more) n ≡ slice_index old n = get_or_append_left old more 0 n less in
        let low : 128 ≤ slice_index old n = omega arith in
        let high : 192 ≤ slice_index old n = b.1 less low in
        omega arith,
  )
  | inr rest ↦ let all : n ≡ length old = omega (arith, b.0) in subst (λ (k : ℕ). IsCharBoundary (old ++ more) k) (sym all)
      (IsCharBoundary-at_seam (old ++ more) old more refl u)
])

pub all_grows : (old more new : List ℕ) → new ≡ old ++ more → IsUtf8 old → chars new ≡ chars old ++ chars more
all_grows old more new e u = ap chars e ∙ chars-append old more u

-- ---- a tab that is used in part

text_of_spaces : (n : ℕ) (line : Line) → text_of (spaces n ++ line) ≡ replicate n 32 ++ text_of line
unfolding text_of
text_of_spaces zero line = refl
text_of_spaces (suc n) line = ap (λ more. 32 ∷ more) (text_of_spaces n line)

pub rest_in_tab : (from : Position) → from.in_tab ≡ true
    → text_of (left_of from) ≡ replicate ((after_next from).column - from.column) 32 ++ (after_next from).rest
rest_in_tab from e = ap (λ b. text_of (cells_at b from.column from.rest)) e ∙ at from.rest refl
  where
    at : (text : Text) → from.rest ≡ text → text_of (cells_at true from.column text)
        ≡ replicate ((behind_first from text).column - from.column) 32 ++ (behind_first from text).rest
    at [] f =
        let none : from.column - from.column ≡ 0 = omega arith in
        text_of_cells from.column [] ∙ (sym f ∙ ap (λ n. replicate n 32 ++ from.rest) (sym none))
    at (c ∷ rest) f =
        let wide : (from.column + width_at c from.column) - from.column ≡ width_at c from.column = omega arith in
        text_of_spaces (width_at c from.column) (cells_from (from.column + width_at c from.column) rest)
        ∙ (ap (λ more. replicate (width_at c from.column) 32 ++ more) (text_of_cells (from.column + width_at c from.column) rest)
        ∙ ap (λ n. replicate n 32 ++ rest) (sym wide))

pub rest_out_of_tab : (from : Position) → from.in_tab ≡ false → text_of (left_of from) ≡ from.rest
rest_out_of_tab from e = ap (λ b. text_of (cells_at b from.column from.rest)) e ∙ at from.rest
  where
    at : (text : Text) → text_of (cells_at false from.column text) ≡ text
    at [] = text_of_cells from.column []
    at (c ∷ rest) = text_of_cells from.column (c ∷ rest)

-- what is added inside a tab: spaces, and what stands behind it
pub rest_added_in_tab : (line copied behind : Position) (count : ℕ) (old mid new rest : Text) →
    line.in_tab ≡ true → copied ≡ line → behind ≡ after_next copied → count ≡ behind.column - line.column → rest ≡ behind.rest →
    mid ≡ old ++ replicate count 32 → new ≡ mid ++ rest → new ≡ old ++ text_of (left_of line)
rest_added_in_tab line copied behind count old mid new rest t e f k g m h =
    let there : behind ≡ after_next line = f ∙ ap after_next e in
    let wide : count ≡ (after_next line).column - line.column = k ∙ ap (λ (p : Position). p.column - line.column) there in
    let more : rest ≡ (after_next line).rest = g ∙ ap (λ (p : Position). p.rest) there in
    h
    ∙ (ap (λ xs. xs ++ rest) m
    ∙ (append_assoc old (replicate count 32) rest
    ∙ (ap (λ n. old ++ (replicate n 32 ++ rest)) wide
    ∙ (ap (λ xs. old ++ (replicate ((after_next line).column - line.column) 32 ++ xs)) more
    ∙ ap (λ xs. old ++ xs) (sym (rest_in_tab line t))))))

pub rest_added : (line : Position) (old new rest : Text) → line.in_tab ≡ false → rest ≡ line.rest → new ≡ old ++ rest
    → new ≡ old ++ text_of (left_of line)
rest_added line old new rest t g h = h ∙ ap (λ xs. old ++ xs) (g ∙ sym (rest_out_of_tab line t))

-- ---- one character

ending_is : chars (10 ∷ []) ≡ 10 ∷ []
ending_is = chars-IsAscii (10 ∷ []) (search rules)

space_is : chars (32 ∷ []) ≡ 32 ∷ []
space_is = chars-IsAscii (32 ∷ []) (search rules)

pub ending_added : {A E : Type 0} (result : Result A E) (old new : Text) → OnOk result (new ≡ old ++ chars (10 ∷ []))
    → OnOk result (new ≡ old ++ 10 ∷ [])
ending_added (Ok a) old new h = h ∙ ap (λ more. old ++ more) ending_is
ending_added (Err e) old new h = h

pub space_added : {A E : Type 0} (result : Result A E) (old new : Text) → OnOk result (new ≡ old ++ chars (32 ∷ []))
    → OnOk result (new ≡ old ++ 32 ∷ [])
space_added (Ok a) old new h = h ∙ ap (λ more. old ++ more) space_is
space_added (Err e) old new h = h
