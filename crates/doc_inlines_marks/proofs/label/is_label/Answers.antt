use Rattle.std.proofs.Common.{rules}
use Rattle.doc_inlines_marks.proofs.LabelSteps.{long_is_no_label, not_whole}
use Rattle.doc_inlines_marks.proofs.label.is_label.Goals as goal

pub returns-else-is_empty : goal.returns-else-is_empty
returns-else-is_empty c = not_whole _ c.in-Some.rest.now _ (search rules) c.in-Some.ensures.0 c.is_empty.ensures c.if-is_empty.false

pub returns-in-None : goal.returns-in-None
returns-in-None c = long_is_no_label _ c.in-None.ensures.0
