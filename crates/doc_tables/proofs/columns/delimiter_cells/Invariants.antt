use Rattle.std.proofs.Common.{◌≤◌, chars, length}
use Rattle.doc_rules.specs.Tables.{alignments_of, cells_of_line}
use Rattle.doc_tables.specs.CellSteps.{cells_left}
use Rattle.doc_tables.specs.ColumnSteps.{columns_of}
use Rattle.doc_tables.proofs.ColumnLaws.{AreCounted}
use Rattle.doc_tables.proofs.columns.delimiter_cells.Given as goal

abbrev pub invariant-cells : goal.invariant-cells
invariant-cells l = record {
  counted : AreCounted (columns_of (cells_of_line (chars l.line))) (alignments_of (cells_left l.cells)) l.count;
  most : l.count ≤ 100;
}

abbrev pub decreases-cells : goal.decreases-cells
decreases-cells l = length (cells_left l.cells)
