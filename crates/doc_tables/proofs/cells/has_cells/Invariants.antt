use Rattle.std.proofs.Common.{◌≡◌, ◌==◌, chars, length}
use Rattle.doc_tables.specs.CellSteps.{cells_left}
use Rattle.doc_rules.specs.Tables.{cells_of_line}
use Rattle.doc_tables.proofs.cells.has_cells.Given as goal

abbrev pub invariant-cells : goal.invariant-cells
invariant-cells l = (length (cells_of_line (chars l.line)) == l.fn.count) ≡ (length (cells_left l.cells) == l.left)

abbrev pub decreases-cells : goal.decreases-cells
decreases-cells l = length (cells_left l.cells)
