use Rattle.std.proofs.Common.{◌≡◌, ◌≤◌, chars, length}
use Rattle.std.specs.Prelude.{option_and_then}
use Rattle.doc_tables.specs.CellSteps.{cells_left}
use Rattle.doc_tables.specs.ColumnSteps.{columns_of, some_columns}
use Rattle.doc_rules.specs.Tables.{alignments_of, cells_of_line}
use Rattle.doc_tables.proofs.ColumnLaws.{behind_made}
use Rattle.doc_tables.proofs.columns.delimiter_columns.Given as goal

abbrev pub invariant-cells : goal.invariant-cells
invariant-cells l = record {
  same : columns_of (cells_of_line (chars l.line))
      ≡ option_and_then some_columns (behind_made l.columns.items (alignments_of (cells_left l.cells)));
  most : length l.columns.items ≤ 100;
}

abbrev pub decreases-cells : goal.decreases-cells
decreases-cells l = length (cells_left l.cells)
