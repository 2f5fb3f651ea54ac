use Rattle.std.proofs.Common.{◌∙◌}
use Rattle.doc_inlines_marks.proofs.EndSteps.{title_end}
use Rattle.doc_inlines_marks.proofs.TitleSteps.{title_stands}
use Rattle.doc_inlines_marks.proofs.inline_tail.destination_tail.Goals as goal

pub returns-in-Some-title-clause-value : goal.returns-in-Some-title-clause-value
returns-in-Some-title-clause-value c = λ rules. c.closed-in-Some-title.ensures.value rules
    ∙ title_stands rules _ _ _ _ _ c.in-Some.ensures c.in-Some-title.ensures c.front.ensures.value

pub returns-in-Some-title-clause-end : goal.returns-in-Some-title-clause-end
returns-in-Some-title-clause-end c = title_end c.closed-in-Some-title.result _ _ _ c.in-Some.ensures c.in-Some-title.ensures
    c.closed-in-Some-title.ensures.end
