use Rattle.std.proofs.Common.{◌∙◌}
use Rattle.doc_shelf_hits.proofs.FoundSteps.{count_is}
use Rattle.doc_shelf_hits.proofs.finding.found_among.Goals as goal

pub returns-clause-count : goal.returns-clause-count
returns-clause-count c pages are = c.hit_count.ensures ∙ count_is pages c.args.terms.now c.args.candidates.now are
