use Rattle.doc_html.proofs.TableSteps.{cell_begins}
use Rattle.doc_html.proofs.tables.begin_cell.Goals as goal

pub returns : goal.returns
returns g c =
    cell_begins g.W.Writer.holds c.args.writer.now c.markup.new.writer c.markup-2.new.writer c.push_alignment.new.writer
    c.markup-3.new.writer c.args.name.now c.args.column c.in_ok-markup.ensures c.in_ok-markup-2.ensures c.in_ok-push_alignment.ensures
    c.in_ok-markup-3.ensures
