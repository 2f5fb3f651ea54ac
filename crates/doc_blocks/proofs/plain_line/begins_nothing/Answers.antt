use Rattle.std.proofs.Common.{chars}
use Rattle.doc_lines.specs.Cursors.{left_of}
use Rattle.doc_blocks.specs.PlainLines.{begins_marker}
use Rattle.doc_blocks.proofs.PlainLaws.{nothing_too_far, nothing_at_end, nothing_at, marks_none}
use Rattle.doc_blocks.proofs.plain_line.begins_nothing.Goals as goal

pub returns-in_default : goal.returns-in_default
returns-in_default c = λ _. nothing_too_far (left_of c.args.line.now) c.in_default.ensures

pub returns-in_default-next_char : goal.returns-in_default-next_char
returns-in_default-next_char c = λ _. nothing_at_end (left_of c.args.line.now) (chars c.in-Some.text.now) c.in-Some.ensures
    c.in_default-next_char.ensures.characters

pub returns : goal.returns
returns c = λ holds. nothing_at (left_of c.args.line.now) (chars c.in-Some.text.now) c.in-Some-next_char.first _ c.in-Some.ensures
    c.in-Some-next_char.ensures.characters (marks_none c.begins_marker.result (begins_marker c.in-Some-next_char.first)
    c.begins_marker.ensures
    holds)
