use Rattle.std.proofs.Common.{◌≡◌, List, [], codes, length}
use Rattle.doc_rules.specs.Definitions.{Definition}
use Rattle.doc_refs_parts.specs.Targets.{targets_of}
use Rattle.doc_tables.specs.CellSteps.{cells_left}
use Rattle.doc_html.specs.TableSteps.{cells_told, Leads}
use Rattle.doc_html.proofs.tables.meet_cells.Given as goal

abbrev pub invariant-cells : goal.invariant-cells
invariant-cells g l =
    (definitions : List Definition) → l.source.refs.now ≡ targets_of definitions →
    Leads g.W.Writer.holds l.fn.writer l.writer (cells_told l.source.entities.now definitions (codes "th") [] (cells_left l.left))
    (cells_told l.source.entities.now definitions (codes "th") [] (cells_left l.fn.cells))

abbrev pub decreases-cells : goal.decreases-cells
decreases-cells g l = length (cells_left l.left)
