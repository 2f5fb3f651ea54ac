-- Lines as cells: places that are not inside a tab, and their next character.
use Rattle.std.proofs.Common.{◌≡◌, ℕ, ◌+◌, ◌<◌, Bool, true, false, [], ◌∷◌, refl, ap, sym, ◌∙◌, Some, None, arith}
use Rattle.std.proofs.lemmas.Bool.Decides.{nat_tests}
use Rattle.doc_rules.specs.Characters.{Text}
use Rattle.doc_rules.specs.Columns.{Line, width_at, columns_from, cell_of, cells_from, is_gap, indent, after_indent}
use Rattle.doc_lines.specs.Cursors.{Position, first, behind_first, after_next, cells_at, left_of}
use Rattle.doc_lines.proofs.CursorLaws.{indent_spaces}
use Rattle.doc_blocks_starts.specs.Lines.{IsPlain}

no_indent_after : (line : Line) → indent (after_indent line) ≡ 0
unfolding indent after_indent
no_indent_after [] = refl
no_indent_after (cell ∷ rest) = at (no_indent_after rest) (is_gap cell) refl
  where
    at : indent (after_indent rest) ≡ 0 → (g : Bool) → is_gap cell ≡ g
        → indent (elim g [ true ↦ after_indent rest | false ↦ cell ∷ rest ]) ≡ 0
    at behind true g = behind
    at behind false g = ap (λ (b : Bool). elim b [ true ↦ cell.width + indent rest | false ↦ 0 ]) g

-- ---- places that are not inside a tab

some_width : (c at : ℕ) → 0 < width_at c at
some_width c at = grind (arith, nat_tests)

plain_front : (from : Position) → indent (left_of from) ≡ 0 → IsPlain from
plain_front from e = at from.in_tab from.rest e
  where
    at : (b : Bool) (text : Text) → indent (cells_at b from.column text) ≡ 0 → cells_at b from.column text ≡ cells_from from.column text
    at false [] e = refl
    at false (c ∷ rest) e = refl
    at true [] e = refl
    at true (c ∷ rest) e =
        let more = some_width c from.column in
        let whole = indent_spaces (width_at c from.column) (cells_from (from.column + width_at c from.column) rest) in
        absurd (omega arith)

-- behind its indentation a line begins with a whole character
pub front_is_plain : (line : Line) (from : Position) → left_of from ≡ after_indent line → IsPlain from
front_is_plain line from e = plain_front from (ap indent e ∙ no_indent_after line)

-- ---- the next character

pub front_end : (from : Position) → IsPlain from → None ≡ first from.rest → left_of from ≡ []
unfolding columns_from
front_end from plain e = plain ∙ at from.rest e
  where
    at : (text : Text) → None ≡ first text → cells_from from.column text ≡ []
    at [] e = refl
    at (c ∷ rest) e = absurd cc

split_front : (text : Text) (c : ℕ) → Some c ≡ first text → (rest : Text) × (text ≡ c ∷ rest)
split_front [] c e = absurd cc
split_front (d ∷ rest) c e = (rest, let same : d ≡ c = cc in ap (λ k. k ∷ rest) same)

pub front_cell : (from next : Position) (c : ℕ) → IsPlain from → Some c ≡ first from.rest → next ≡ after_next from
    → left_of from ≡ record { char = c; width = width_at c from.column } ∷ left_of next
unfolding columns_from cell_of
front_cell from next c plain e f =
    let front = split_front from.rest c e in
    plain ∙ ap (cells_from from.column) front.1
    ∙ ap (λ (to : Position). record { char = c; width = width_at c from.column } ∷ left_of to) (sym (f ∙ ap (behind_first from) front.1))
