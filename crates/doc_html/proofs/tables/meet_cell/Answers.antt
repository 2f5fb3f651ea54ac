use Rattle.std.proofs.Common.{◌∙◌, ap, chars}
use Rattle.doc_inlines_marks.specs.Views.{inlines_shown}
use Rattle.doc_html.proofs.TableSteps.{text_goes}
use Rattle.doc_html.proofs.tables.meet_cell.Goals as goal

pub returns : goal.returns
returns g c = λ definitions is.
    text_goes g.W.Writer.holds c.args.writer.now c.meet_paragraph.new.self c.args.source.now.entities.now definitions
    (chars c.args.text.now) _ (ap inlines_shown c.marks.ensures ∙ c.in_ok-read.ensures.inlines definitions is)
    c.in_ok-meet_paragraph.ensures
