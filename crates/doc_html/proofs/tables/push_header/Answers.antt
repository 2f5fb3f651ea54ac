use Rattle.std.proofs.Common.{codes}
use Rattle.doc_html.proofs.TableSteps.{header_goes}
use Rattle.doc_html.proofs.tables.push_header.Goals as goal

pub returns : goal.returns
returns g c = λ definitions is.
    header_goes g.W.Writer.holds c.args.writer.now c.markup.new.writer c.push_cells.new.writer c.meet_cells.new.writer
    c.markup-2.new.writer c.args.source.now.entities.now definitions (codes "th") c.args.columns.now _ _ c.in_ok-markup.ensures
    (c.in_ok-rest.ensures.written definitions is) c.in_ok-rest.ensures.rest (c.in_ok-meet_cells.ensures definitions is)
    c.in_ok-markup-2.ensures
