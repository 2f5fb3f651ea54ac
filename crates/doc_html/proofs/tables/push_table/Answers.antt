use Rattle.std.proofs.Common.{◌∙◌, chars}
use Rattle.doc_lines.specs.RestSteps.{rest_of}
use Rattle.doc_blocks_starts.specs.Tables.{lines_in}
use Rattle.doc_html.proofs.TableSteps.{table_goes}
use Rattle.doc_html.proofs.tables.push_table.Goals as goal

pub returns : goal.returns
returns g c = λ definitions is.
    table_goes g.W.Writer.holds c.args.writer.now c.new_line.new.self c.markup.new.writer c.push_header.new.writer c.markup-2.new.writer
    c.push_body.new.writer c.markup-3.new.writer c.args.source.now.entities.now definitions c.as_slice-columns.result.now
    (chars c.args.lines.now.header.now) (chars c.args.lines.now.delimiters.now) (lines_in (rest_of c.args.lines.now.rows))
    (c.as_slice-columns.ensures.value ∙ c.in_ok-columns.ensures) c.in_ok-new_line.ensures c.in_ok-markup.ensures
    (c.in_ok-push_header.ensures definitions is) c.in_ok-markup-2.ensures
    (c.in_ok-push_body.ensures definitions is) c.in_ok-markup-3.ensures
