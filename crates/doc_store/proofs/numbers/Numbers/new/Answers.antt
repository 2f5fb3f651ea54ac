use Rattle.doc_store.proofs.RowSteps.{none_yet}
use Rattle.doc_store.proofs.numbers.Numbers.new.Goals as goal

pub invariant_of-result : goal.invariant_of-result
invariant_of-result c = rw (c.new.ensures.items, c.new-2.ensures.items) none_yet
