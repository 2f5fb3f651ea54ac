use Rattle.std.proofs.Common.{◌∙◌, ap, chars}
use Rattle.doc_rules.specs.Tables.{text_lines}
use Rattle.doc_lines.specs.RestSteps.{rest_of}
use Rattle.doc_blocks_starts.specs.Tables.{lines_in}
use Rattle.doc_html.proofs.TableSteps.{rows_begin, rows_go_on, rows_end}
use Rattle.doc_html.proofs.tables.push_rows.Goals as goal

pub rows-init : goal.rows-init
rows-init g c = λ definitions is.
    rows_begin g.W.Writer.holds c.args.source.now.entities.now definitions c.args.columns.now c.args.writer.now
    (text_lines (chars c.args.rows.now))

pub rows-preserved : goal.rows-preserved
rows-preserved g c = λ definitions is.
    rows_go_on g.W.Writer.holds c.args.source.now.entities.now definitions c.args.columns.now c.args.writer.now c.rows.writer
    c.push_row.new.writer (lines_in (rest_of c.rows.left)) _ _ _
    (ap (λ left. lines_in (rest_of left)) c.in-Some.is ∙ c.first_line.ensures) (c.rows.invariant definitions is)
    (c.in_ok-push_row.ensures definitions is)

pub returns : goal.returns
returns g c = λ definitions is.
    rows_end g.W.Writer.holds c.args.source.now.entities.now definitions c.args.columns.now c.args.writer.now c.rows.writer
    (lines_in (rest_of c.rows.left)) _ (ap (λ left. lines_in (rest_of left)) c.in_default.is) (c.rows.invariant definitions is)
