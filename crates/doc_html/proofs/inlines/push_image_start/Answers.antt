use Rattle.std.proofs.Common.{◌≡◌, ap, subst, ◌∙◌, chars}
use Rattle.std.specs.Prelude.{[], ◌∷◌, codes}
use Rattle.doc_rules.specs.Escaping.{url_escape}
use Rattle.doc_rules.specs.Html.{ImageNote, characters, span_start}
use Rattle.doc_inlines_marks.specs.Targets.{named}
use Rattle.doc_html.specs.ProgressSteps.{Writes}
use Rattle.doc_html.proofs.WriterSteps.{both, texts}
use Rattle.doc_html.proofs.inlines.push_image_start.Goals as goal

pub returns : goal.returns
unfolding span_start
returns g c =
    let dest = (named c.args.target).dest in
    let noted : Writes g.W.Writer.holds c.args.writer.now c.image.new.self (ImageNote dest ∷ [])
    = subst (λ t. Writes g.W.Writer.holds c.args.writer.now c.image.new.self (ImageNote t ∷ []))
    (c.get.ensures ∙ c.in_ok-dest.ensures) c.in_ok-image.ensures in
    let src : chars c.get-3.result.now ≡ url_escape dest = ap chars c.get-3.ensures
    ∙ (c.in_ok-src.ensures.characters ∙ ap url_escape (c.get-2.ensures ∙ c.in_ok-dest.ensures)) in
    let value : Writes g.W.Writer.holds c.markup.new.writer c.text.new.self (characters (url_escape dest))
    = subst (λ t. Writes g.W.Writer.holds c.markup.new.writer c.text.new.self (characters t)) src c.in_ok-text.ensures in
    both g.W.Writer.holds c.args.writer.now c.image.new.self c.markup-2.new.writer (ImageNote dest ∷ []) _ noted
    (texts g.W.Writer.holds c.image.new.self c.text.new.self c.markup-2.new.writer _ (codes "\" alt=\"")
    (texts g.W.Writer.holds c.image.new.self c.markup.new.writer c.text.new.self (codes "<img src=\"") _ c.in_ok-markup.ensures value)
    c.in_ok-markup-2.ensures)
