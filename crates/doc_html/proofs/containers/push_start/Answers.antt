use Rattle.std.specs.Prelude.{codes}
use Rattle.doc_html.proofs.WriterSteps.{texts}
use Rattle.doc_html.proofs.containers.push_start.Goals as goal

pub returns : goal.returns
returns g c =
    texts g.W.Writer.holds c.args.writer.now c.push_decimal.new.writer c.markup-2.new.writer _ (codes "\">\n")
    (texts g.W.Writer.holds c.args.writer.now c.markup.new.writer c.push_decimal.new.writer (codes "<ol start=\"") _ c.in_ok-markup.ensures
    c.in_ok-push_decimal.ensures) c.in_ok-markup-2.ensures
