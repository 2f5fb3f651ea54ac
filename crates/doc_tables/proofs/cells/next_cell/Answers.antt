use Rattle.std.proofs.Common.{rules, ◌≡◌, true, false, ◌∙◌, sym, ap, ◌∷◌, Option}
use denote.Ref.{Bor}
use Rattle.doc_rules.specs.Characters.{Text}
use Rattle.doc_lines.specs.RestSteps.{rest_of}
use Rattle.doc_tables.specs.CellSteps.{cells_in}
use Rattle.doc_tables.proofs.CellLaws.{blank_end, first_cell}
use Rattle.doc_tables.proofs.cells.next_cell.Goals as goal

pub returns-then-is_blank_end-clause-value : goal.returns-then-is_blank_end-clause-value
returns-then-is_blank_end-clause-value c =
    let passed : c.is_blank_end.result ≡ true = search rules in
    ap (λ (o : Option (Bor Text)). cells_in (rest_of o)) c.in_ok-text.was
    ∙ blank_end _ _ _ c.first_part.ensures (sym passed ∙ c.is_blank_end.ensures)

pub returns-clause-value : goal.returns-clause-value
returns-clause-value c =
    let failed : c.is_blank_end.result ≡ false = search rules in
    ap (λ (o : Option (Bor Text)). cells_in (rest_of o)) c.in_ok-text.was
    ∙ first_cell _ _ _ c.first_part.ensures (sym failed ∙ c.is_blank_end.ensures)
    ∙ ap (λ (t : Text). t ∷ cells_in (rest_of c.first_part.result.1)) (sym c.cell_of.ensures.value)
