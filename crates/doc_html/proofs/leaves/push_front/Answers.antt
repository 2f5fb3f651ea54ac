use Rattle.doc_html.proofs.TellingSteps.{empty_said}
use Rattle.doc_html.proofs.leaves.push_front.Goals as goal

pub returns-then-is_empty : goal.returns-then-is_empty
returns-then-is_empty g c =
    empty_said g.W.Writer.holds c.args.writer.now c.args.front.now c.is_empty.result c.is_empty.ensures c.if-is_empty.true
