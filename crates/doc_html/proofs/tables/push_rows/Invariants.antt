use Rattle.std.proofs.Common.{◌≡◌, List, chars, length}
use Rattle.doc_rules.specs.Definitions.{Definition}
use Rattle.doc_rules.specs.Tables.{text_lines}
use Rattle.doc_refs_parts.specs.Targets.{targets_of}
use Rattle.doc_lines.specs.RestSteps.{rest_of}
use Rattle.doc_blocks_starts.specs.Tables.{lines_in}
use Rattle.doc_html.specs.TableSteps.{cut_rows, rows_told, Leads}
use Rattle.doc_html.proofs.tables.push_rows.Given as goal

abbrev pub invariant-rows : goal.invariant-rows
invariant-rows g l =
    (definitions : List Definition) → l.source.refs.now ≡ targets_of definitions →
    Leads g.W.Writer.holds l.fn.writer l.writer
    (rows_told l.source.entities.now definitions l.columns (cut_rows l.columns (lines_in (rest_of l.left))))
    (rows_told l.source.entities.now definitions l.columns (cut_rows l.columns (text_lines (chars l.rows))))

abbrev pub decreases-rows : goal.decreases-rows
decreases-rows g l = length (lines_in (rest_of l.left))
