use Rattle.std.proofs.Common.{◌∙◌, ap, ◌==◌, length}
use Rattle.doc_rules.specs.Characters.{Text}
use Rattle.doc_rules.specs.Tables.{cells_of_line}
use Rattle.doc_tables.proofs.TextLaws.{counted, uncounted}
use Rattle.doc_tables.proofs.table.begins_below.Goals as goal

pub returns-in-Some : goal.returns-in-Some
returns-in-Some c =
    counted _ _ _ _ c.in-Some.ensures
    (c.has_cells.ensures ∙ ap (λ (t : Text). length (cells_of_line t) == c.in-Some.count) c.last_line.ensures)

pub returns-in-None : goal.returns-in-None
returns-in-None c = uncounted _ _ c.in-None.ensures
