use Rattle.doc_html.proofs.TableSteps.{cell_ends}
use Rattle.doc_html.proofs.tables.end_cell.Goals as goal

pub returns : goal.returns
returns g c =
    cell_ends g.W.Writer.holds c.args.writer.now c.markup.new.writer c.markup-2.new.writer c.markup-3.new.writer c.args.name.now
    c.in_ok-markup.ensures c.in_ok-markup-2.ensures c.in_ok-markup-3.ensures
