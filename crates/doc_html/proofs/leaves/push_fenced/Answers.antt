use Rattle.std.proofs.Common.{chars, subst}
use Rattle.doc_rules.specs.Html.{characters, class_attribute, language_class}
use Rattle.doc_html.specs.ProgressSteps.{Writes}
use Rattle.doc_html.proofs.TellingSteps.{code_goes}
use Rattle.doc_html.proofs.leaves.push_fenced.Goals as goal

pub returns : goal.returns
returns g c =
    let class : Writes g.W.Writer.holds c.markup.new.writer c.push_class.new.writer (characters (class_attribute (chars c.args.info.now)))
    = subst (λ w. Writes g.W.Writer.holds c.markup.new.writer c.push_class.new.writer (characters (language_class w))) c.first_word.ensures
    c.in_ok-push_class.ensures in
    code_goes g.W.Writer.holds c.args.writer.now c.meet_text.new.self c.new_line.new.self c.markup.new.writer c.push_class.new.writer
    c.push_content.new.writer
    (class_attribute (chars c.args.info.now)) (chars c.args.text.now) c.in_ok-meet_text.ensures c.in_ok-new_line.ensures
    c.in_ok-markup.ensures class c.in_ok-push_content.ensures
