-- The cells of a text, from its first part.
use Rattle.std.proofs.Common.{◌≡◌, Bool, true, false, List, [], ◌∷◌, ap, sym, ◌∙◌, Option, Some, None}
use Rattle.std.specs.Prelude.{map}
use Rattle.doc_rules.specs.Characters.{Text}
use Rattle.doc_tables.specs.CellSteps.{parts_in, is_blank_end, part_text, cells_of_text, cells_in}
use Rattle.doc_rules.specs.Tables.{parts, without_blank_end}

last_by : Text → Bool → List Text
last_by part b = elim b [ true ↦ [] | false ↦ part ∷ [] ]

-- a last part that is blank is no cell
pub blank_end : (text part : Text) (rest : Option Text) → parts text ≡ part ∷ parts_in rest → true ≡ is_blank_end part rest
    → cells_of_text text ≡ []
unfolding without_blank_end last_by
blank_end text part None e f =
    ap (λ (l : List Text). map part_text (without_blank_end l)) e ∙ ap (λ (b : Bool). map part_text (last_by part b)) (sym f)
blank_end text part (Some behind) e f = absurd cc

-- another part is one
pub first_cell : (text part : Text) (rest : Option Text) → parts text ≡ part ∷ parts_in rest → false ≡ is_blank_end part rest
    → cells_of_text text ≡ part_text part ∷ cells_in rest
unfolding without_blank_end last_by parts
first_cell text part None e f =
    ap (λ (l : List Text). map part_text (without_blank_end l)) e ∙ ap (λ (b : Bool). map part_text (last_by part b)) (sym f)
first_cell text part (Some behind) e f = ap (λ (l : List Text). map part_text (without_blank_end l)) e
