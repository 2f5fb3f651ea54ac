use Rattle.doc_store.proofs.SetSteps.{empty_sets}
use Rattle.doc_store.proofs.aliases.Aliases.new.Goals as goal

pub invariant_of-result : goal.invariant_of-result
invariant_of-result c = empty_sets c.new.result c.new-2.result c.new.ensures c.new-2.ensures
