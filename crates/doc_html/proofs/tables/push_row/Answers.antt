use Rattle.std.proofs.Common.{codes}
use Rattle.doc_html.proofs.TableSteps.{row_goes}
use Rattle.doc_html.proofs.tables.push_row.Goals as goal

pub returns : goal.returns
returns g c = λ definitions is.
    row_goes g.W.Writer.holds c.args.writer.now c.markup.new.writer c.push_cells.new.writer c.markup-2.new.writer
    c.args.source.now.entities.now definitions (codes "td") c.args.columns.now _ c.in_ok-markup.ensures
    (c.in_ok-_rest.ensures.written definitions is) c.in_ok-markup-2.ensures
