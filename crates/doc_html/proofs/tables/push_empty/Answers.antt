use Rattle.doc_html.proofs.TableSteps.{empty_cell}
use Rattle.doc_html.proofs.tables.push_empty.Goals as goal

pub returns : goal.returns
returns g c =
    empty_cell g.W.Writer.holds c.args.writer.now c.begin_cell.new.writer c.end_cell.new.writer c.args.name.now c.args.column
    c.in_ok-begin_cell.ensures c.in_ok-end_cell.ensures
