use Rattle.std.proofs.Common.{chars}
use Rattle.doc_html.proofs.TellingSteps.{no_class, some_class}
use Rattle.doc_html.proofs.leaves.push_class.Goals as goal

pub returns-in_default : goal.returns-in_default
returns-in_default g c = no_class g.W.Writer.holds c.args.writer.now (chars c.args.word.now) c.in_default.ensures.characters

pub returns : goal.returns
returns g c =
    some_class g.W.Writer.holds c.args.writer.now c.markup.new.writer c.escaped.new.self c.markup-2.new.writer (chars c.args.word.now) _ _
    c.in-Some.ensures.characters
    c.in_ok-markup.ensures c.in_ok-escaped.ensures c.in_ok-markup-2.ensures
