use Rattle.std.proofs.Common.{[], chars}
use Rattle.doc_html.proofs.TellingSteps.{code_goes, nothing_said}
use Rattle.doc_html.proofs.leaves.push_indented.Goals as goal

pub returns : goal.returns
returns g c =
    code_goes g.W.Writer.holds c.args.writer.now c.meet_text.new.self c.new_line.new.self c.markup.new.writer c.markup.new.writer
    c.push_content.new.writer [] (chars c.args.text.now)
    c.in_ok-meet_text.ensures c.in_ok-new_line.ensures c.in_ok-markup.ensures (nothing_said g.W.Writer.holds c.markup.new.writer)
    c.in_ok-push_content.ensures
