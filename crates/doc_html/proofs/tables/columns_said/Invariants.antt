use Rattle.std.proofs.Common.{◌≡◌, chars, length}
use Rattle.doc_rules.specs.Tables.{alignments_of, cells_of_line}
use Rattle.doc_tables.specs.CellSteps.{cells_left}
use Rattle.doc_html.proofs.TableSteps.{said_behind}
use Rattle.doc_html.proofs.tables.columns_said.Given as goal

abbrev pub invariant-cells : goal.invariant-cells
invariant-cells l = alignments_of (cells_of_line (chars l.delimiters)) ≡ said_behind l.columns.items (alignments_of (cells_left l.cells))

abbrev pub decreases-cells : goal.decreases-cells
decreases-cells l = length (cells_left l.cells)
