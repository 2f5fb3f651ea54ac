use Rattle.doc_links.proofs.StampSteps.{none_held}
use Rattle.trial_pages.proofs.sites.indexes.Indexes.new.Goals as goal

pub invariant_of-result : goal.invariant_of-result
invariant_of-result c = (rw c.new.ensures (none_held _ 7), rw c.new-2.ensures (none_held _ 7))
