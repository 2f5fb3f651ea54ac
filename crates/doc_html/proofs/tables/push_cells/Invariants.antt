use Rattle.std.proofs.Common.{◌≡◌, List, chars, drop}
use Rattle.doc_rules.specs.Definitions.{Definition}
use Rattle.doc_rules.specs.Tables.{cells_of_line}
use Rattle.doc_refs_parts.specs.Targets.{targets_of}
use Rattle.doc_tables.specs.CellSteps.{cells_left}
use Rattle.doc_html.specs.TableSteps.{cut_told, Leads}
use Rattle.doc_html.proofs.tables.push_cells.Given as goal

abbrev pub invariant-loop-column : goal.invariant-loop-column
invariant-loop-column g l = record {
  written : (definitions : List Definition) → l.source.refs.now ≡ targets_of definitions →
      Leads g.W.Writer.holds l.fn.writer l.writer
      (cut_told l.source.entities.now definitions l.name (drop l.column-index l.columns) (cells_left l.cells))
      (cut_told l.source.entities.now definitions l.name l.columns (cells_of_line (chars l.line)));
  left : cells_left l.cells ≡ drop l.column-index (cells_of_line (chars l.line));
}
