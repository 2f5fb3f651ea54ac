use Rattle.std.specs.Prelude.{codes}
use Rattle.doc_html.proofs.WriterSteps.{texts}
use Rattle.doc_html.proofs.leaves.push_content.Goals as goal

pub returns : goal.returns
returns g c =
    texts g.W.Writer.holds c.args.writer.now c.escaped.new.self c.markup-2.new.writer _ (codes "</code></pre>\n")
    (texts g.W.Writer.holds c.args.writer.now c.markup.new.writer c.escaped.new.self (codes ">") _ c.in_ok-markup.ensures
    c.in_ok-escaped.ensures) c.in_ok-markup-2.ensures
