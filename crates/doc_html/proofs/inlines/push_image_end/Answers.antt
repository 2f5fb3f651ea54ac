use Rattle.std.proofs.Common.{subst}
use Rattle.std.specs.Prelude.{codes}
use Rattle.doc_page_parts.specs.Pages.{title_attribute}
use Rattle.doc_rules.specs.Html.{characters, span_end}
use Rattle.doc_inlines_marks.specs.Targets.{named}
use Rattle.doc_html.specs.ProgressSteps.{Writes}
use Rattle.doc_html.proofs.WriterSteps.{texts}
use Rattle.doc_html.proofs.inlines.push_image_end.Goals as goal

pub returns : goal.returns
unfolding span_end
returns g c =
    let value : Writes g.W.Writer.holds c.markup.new.writer c.push_title.new.writer (characters (title_attribute (named
    c.args.target).title))
    = subst (λ t. Writes g.W.Writer.holds c.markup.new.writer c.push_title.new.writer (characters (title_attribute t)))
    c.in_ok-title.ensures
    c.in_ok-push_title.ensures in
    texts g.W.Writer.holds c.args.writer.now c.push_title.new.writer c.markup-2.new.writer _ (codes " />")
    (texts g.W.Writer.holds c.args.writer.now c.markup.new.writer c.push_title.new.writer (codes "\"") _ c.in_ok-markup.ensures value)
    c.in_ok-markup-2.ensures
