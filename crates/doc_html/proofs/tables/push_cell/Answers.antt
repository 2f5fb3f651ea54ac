use Rattle.std.proofs.Common.{◌≡◌, ◌∙◌, ap, chars}
use Rattle.doc_rules.specs.Reading.{inlines_of}
use Rattle.doc_inlines_marks.specs.Views.{inlines_shown}
use Rattle.doc_html.proofs.TableSteps.{cell_goes}
use Rattle.doc_html.proofs.tables.push_cell.Goals as goal

pub returns : goal.returns
returns g c = λ definitions is.
    let read : inlines_shown c.marks-marks.result.now ≡ inlines_of c.args.source.now.entities.now definitions (chars c.args.text.now)
    = ap inlines_shown c.marks-marks.ensures ∙ c.in_ok-read.ensures.inlines definitions is in
    cell_goes g.W.Writer.holds c.args.writer.now c.meet_paragraph.new.self c.begin_cell.new.writer c.push_marks.new.writer
    c.end_cell.new.writer c.args.source.now.entities.now definitions c.args.name.now c.args.column (chars c.args.text.now) _ read
    c.in_ok-meet_paragraph.ensures c.in_ok-begin_cell.ensures c.in_ok-push_marks.ensures c.in_ok-end_cell.ensures
