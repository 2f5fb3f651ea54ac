use Rattle.doc_inlines_marks.proofs.EndSteps.{closed_end}
use Rattle.doc_inlines_marks.proofs.inline_tail.closed.Goals as goal

pub returns-clause-end : goal.returns-clause-end
returns-clause-end c = closed_end _ _ _ c.spacing.ensures c.in_ok-rest.ensures
