use Rattle.std.proofs.Common.{rules}
use Rattle.std.proofs.lemmas.Fn.{always_returns_same}
use Rattle.doc_index.specs.Held.{slot_at}
use Rattle.doc_index.specs.IndexSteps.{compared}
use Rattle.doc_index.proofs.OrderSteps.{all_less}
use Rattle.doc_index.proofs.order.search.Goals as goal

pub returns-then-comes_last-clause-place : goal.returns-then-comes_last-clause-place
returns-then-comes_last-clause-place g c =
    all_less (λ slot. compared (slot_at c.args.slots.now.slots slot) (c.args.path.now, c.args.stamp)) c.args.order.now
    (c.comes_last.ensures.some c.if-comes_last.true) (c.comes_last.ensures.last c.if-comes_last.true)

pub returns-clause-place : goal.returns-clause-place
returns-clause-place g c =
    c.binary_search_by.ensures.position (λ slot. compared (slot_at c.args.slots.now.slots slot) (c.args.path.now, c.args.stamp))
    (always_returns_same _ _ _ (λ a r f called. search rules))
