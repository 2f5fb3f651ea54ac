use Rattle.std.proofs.Common.{rules, chars}
use Rattle.doc_people_search.proofs.PartSteps.{met_run}
use Rattle.doc_people_search.proofs.parts.is_met.Goals as goal

pub returns : goal.returns
returns c =
    met_run c.args.terms.now (chars c.args.part.now) _ c.is_run.result _ c.is_run.ensures c.if-not-is_run.false c.in_ok-word.ensures
    (search rules)
