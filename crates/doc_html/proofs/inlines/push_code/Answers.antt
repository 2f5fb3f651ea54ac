use Rattle.std.specs.Prelude.{codes}
use Rattle.doc_rules.specs.Html.{inline_html}
use Rattle.doc_html.proofs.WriterSteps.{texts}
use Rattle.doc_html.proofs.inlines.push_code.Goals as goal

pub returns : goal.returns
unfolding inline_html
returns g c =
    texts g.W.Writer.holds c.args.writer.now c.push_spaced.new.writer c.markup-2.new.writer _ (codes "</code>")
    (texts g.W.Writer.holds c.args.writer.now c.markup.new.writer c.push_spaced.new.writer (codes "<code>") _ c.in_ok-markup.ensures
    c.in_ok-push_spaced.ensures) c.in_ok-markup-2.ensures
