use Rattle.std.proofs.Common.{◌∙◌}
use Rattle.std.proofs.lemmas.Str.{chars-nil}
use Rattle.doc_inlines_marks.proofs.EndSteps.{start_rest, behind_destination}
use Rattle.doc_inlines_marks.proofs.TitleSteps.{no_destination}
use Rattle.doc_inlines_marks.proofs.inline_tail.inline_tail.Goals as goal

pub returns-in-None-clause-value : goal.returns-in-None-clause-value
returns-in-None-clause-value c = λ rules. c.closed.ensures.value rules
    ∙ no_destination rules _ _ _ _ chars-nil c.in_ok-is.ensures c.spacing-start.ensures c.in-None.ensures

pub returns-in-None-clause-end : goal.returns-in-None-clause-end
returns-in-None-clause-end c = start_rest c.closed.result _ _ _ c.in_ok-is.ensures c.spacing-start.ensures c.closed.ensures.end

pub returns-in-Some-clause-end : goal.returns-in-Some-clause-end
returns-in-Some-clause-end c = behind_destination c.destination_tail.result _ _ _ _ c.in_ok-is.ensures c.spacing-start.ensures
    c.in-Some.ensures c.destination_tail.ensures.end
