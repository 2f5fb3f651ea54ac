use Rattle.doc_index.proofs.IndexSteps.{nothing_held}
use Rattle.doc_index.proofs.index.Index.new.Goals as goal

pub invariant_of-result : goal.invariant_of-result
invariant_of-result g c = rw (c.new.ensures.empty, c.new-2.ensures.items, c.new-3.ensures) nothing_held
