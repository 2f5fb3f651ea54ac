use Rattle.std.proofs.Common.{sym, subst}
use Rattle.doc_store.specs.Store.{IsStore}
use Rattle.doc_store.proofs.StateSteps.{nothing_stored}
use Rattle.doc_store.proofs.StoreSteps.{empty_is_store}
use Rattle.doc_store.proofs.store.Store.new.Goals as goal

pub invariant_of-result : goal.invariant_of-result
invariant_of-result c = subst IsStore (sym (nothing_stored c.new.result c.new-2.result c.new.ensures c.new-2.ensures)) empty_is_store

pub returns : goal.returns
returns c = nothing_stored c.new.result c.new-2.result c.new.ensures c.new-2.ensures
