use Rattle.std.proofs.Common.{◌≡◌, ◌∙◌, ap, chars}
use Rattle.doc_rules.specs.Reading.{inlines_of}
use Rattle.doc_inlines_marks.specs.Views.{inlines_shown}
use Rattle.doc_html.specs.TellingSteps.{text_told}
use Rattle.doc_html.proofs.TellingSteps.{tight_paragraph, loose_paragraph}
use Rattle.doc_html.proofs.leaves.push_paragraph.Goals as goal

pub returns-then-tight : goal.returns-then-tight
unfolding text_told
returns-then-tight g c = λ definitions is.
    let read : inlines_shown c.marks-marks.result.now ≡ inlines_of c.args.source.now.entities.now definitions (chars c.args.text.now)
    = ap inlines_shown c.marks-marks.ensures ∙ c.in_ok-read.ensures.inlines definitions is in
    tight_paragraph g.W.Writer.holds c.args.writer.now c.meet_paragraph.new.self c.push_front.new.writer c.push_marks.new.writer
    c.args.tight c.args.front.now _ _ c.if-tight.true read c.in_ok-meet_paragraph.ensures c.in_ok-push_front.ensures c.in_ok-push_marks.ensures

pub returns : goal.returns
unfolding text_told
returns g c = λ definitions is.
    let read : inlines_shown c.marks-marks.result.now ≡ inlines_of c.args.source.now.entities.now definitions (chars c.args.text.now)
    = ap inlines_shown c.marks-marks.ensures ∙ c.in_ok-read.ensures.inlines definitions is in
    loose_paragraph g.W.Writer.holds c.args.writer.now c.meet_paragraph.new.self c.new_line.new.self c.markup.new.writer
    c.push_front-2.new.writer c.push_marks-2.new.writer c.markup-2.new.writer c.args.tight c.args.front.now _ _
    c.if-tight.false read c.in_ok-meet_paragraph.ensures c.in_ok-new_line.ensures c.in_ok-markup.ensures c.in_ok-push_front-2.ensures
    c.in_ok-push_marks-2.ensures c.in_ok-markup-2.ensures
