use Rattle.std.proofs.Common.{All, IsTrue, is_some, subst₂, sym, ◌∙◌}
use Rattle.doc_index.specs.Held.{slot_at}
use Rattle.doc_index.proofs.IndexSteps.{all_have}
use Rattle.doc_index.proofs.index.Index.in_order.Goals as goal

pub returns-clause-present : goal.returns-clause-present
returns-clause-present g c =
    subst₂ (λ s order. All (λ slot. IsTrue (is_some (slot_at s slot))) order) c.self.view_is
    (sym (c.in_ok-from_slice.ensures.items ∙ c.deref.ensures.value))
    (all_have c.self.inside.slots.slots c.self.inside.order.items c.self.inside.postings c.self.invariant)
