use Rattle.std.proofs.Common.{◌∙◌, ap, chars}
use Rattle.doc_inlines_marks.specs.Targets.{named}
use Rattle.doc_inlines_marks.proofs.ReferenceSteps.{names_target}
use Rattle.doc_inlines_marks.proofs.reference_tail.reference_target.Goals as goal

pub returns-in-Some-clause-value : goal.returns-in-Some-clause-value
unfolding named
returns-in-Some-clause-value c = λ definitions e. names_target definitions c.args.refs.now _ _ _ _ e (ap chars c.get.ensures
    ∙ c.in_ok-normal.ensures) c.in-Some.ensures

pub returns-clause-value : goal.returns-clause-value
returns-clause-value c = λ definitions e. names_target definitions c.args.refs.now _ _ _ _ e (ap chars c.get.ensures
    ∙ c.in_ok-normal.ensures) c.in-None.ensures
