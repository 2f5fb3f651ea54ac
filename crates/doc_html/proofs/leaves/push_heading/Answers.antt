use Rattle.std.proofs.Common.{◌≡◌, ◌∙◌, ap, chars}
use Rattle.doc_rules.specs.Reading.{inlines_of}
use Rattle.doc_inlines_marks.specs.Views.{inlines_shown}
use Rattle.doc_html.specs.TellingSteps.{leaf_told}
use Rattle.doc_html.proofs.TellingSteps.{heading_goes}
use Rattle.doc_html.proofs.leaves.push_heading.Goals as goal

pub returns : goal.returns
unfolding leaf_told
returns g c = λ definitions tight is.
    let read : inlines_shown c.marks-marks.result.now ≡ inlines_of c.args.source.now.entities.now definitions (chars c.args.text.now)
    = ap inlines_shown c.marks-marks.ensures ∙ c.in_ok-read.ensures.inlines definitions is in
    heading_goes g.W.Writer.holds c.args.writer.now c.new_line.new.self c.markup.new.writer c.push_level.new.writer c.meet_heading.new.self
    c.markup-2.new.writer c.push_marks.new.writer
    c.markup-3.new.writer c.push_level-2.new.writer c.markup-4.new.writer c.args.level _ _ read c.in_ok-new_line.ensures
    c.in_ok-markup.ensures c.in_ok-push_level.ensures
    c.in_ok-meet_heading.ensures c.in_ok-markup-2.ensures c.in_ok-push_marks.ensures c.in_ok-markup-3.ensures c.in_ok-push_level-2.ensures
    c.in_ok-markup-4.ensures
