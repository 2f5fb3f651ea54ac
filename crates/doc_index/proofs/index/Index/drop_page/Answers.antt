use Rattle.std.proofs.Common.{ap, get_or, is_some, length, subst, sym, ◌∙◌}
use Rattle.std.specs.Prelude.{◌<◌}
use Rattle.std.specs.FinMap as map
use Rattle.doc_index.specs.Held.{held}
use Rattle.doc_index.specs.IndexSteps.{IsIndex}
use Rattle.doc_index.proofs.HeldSteps.{absent}
use Rattle.doc_index.proofs.IndexSteps.{has_pair, left, left_held, none_found, stands}
use Rattle.doc_index.proofs.index.Index.drop_page.Goals as goal

pub returns-in_default-clause-answer : goal.returns-in_default-clause-answer
returns-in_default-clause-answer g c =
    let is =
    subst (λ o. IsIndex c.self.inside.last c.self.inside.slots.slots o c.self.inside.postings) (sym c.deref.ensures.value)
    c.self.invariant in
    ap is_some (sym (none_found c.self.inside.slots.slots c.deref.result.now c.self.inside.postings is (c.args.path.now, c.args.stamp)
    c.in_default.field-0 c.in_default.ensures.within c.in_default.ensures.place)
    ∙ ap (λ s. map.get (held s) (c.args.path.now, c.args.stamp)) c.self.view_is)

pub returns-in_default-clause-rest : goal.returns-in_default-clause-rest
returns-in_default-clause-rest g c =
    let is =
    subst (λ o. IsIndex c.self.inside.last c.self.inside.slots.slots o c.self.inside.postings) (sym c.deref.ensures.value)
    c.self.invariant in
    absent c.args.self.now (c.args.path.now, c.args.stamp)
    (ap (λ s. map.get (held s) (c.args.path.now, c.args.stamp)) (sym c.self.view_is)
    ∙ none_found c.self.inside.slots.slots c.deref.result.now c.self.inside.postings is (c.args.path.now, c.args.stamp)
    c.in_default.field-0 c.in_default.ensures.within c.in_default.ensures.place)

pub invariant_of-self-2 : goal.invariant_of-self-2
invariant_of-self-2 g c =
    left c.self.inside.slots.slots c.self.inside.order.items c.self.inside.postings c.self.invariant c.index-slot.result.now c.in-Some.page
    (sym c.in-Some.ensures.value) c.try_remove.new.self.slots
    c.in-Some.ensures.updates.changed c.in-Some.ensures.updates.others
    c.in-Ok.at c.remove.new.self.items c.take_from.new.table
    (subst (λ o. c.in-Ok.at < length o) c.deref.ensures.value c.in-Ok.ensures.within)
    c.index-slot.ensures c.remove.ensures.items c.take_from.ensures

pub returns-clause-answer : goal.returns-clause-answer
returns-clause-answer g c =
    let is =
    subst (λ o. IsIndex c.self.inside.last c.self.inside.slots.slots o c.self.inside.postings) (sym c.deref.ensures.value)
    c.self.invariant in
    let there =
    stands c.self.inside.slots.slots c.deref.result.now c.self.inside.postings is (c.args.path.now, c.args.stamp) c.in-Ok.at
    c.index-slot.result.now c.in-Ok.ensures.place
    (c.index-slot.ensures ∙ ap (λ o. get_or o c.in-Ok.at c.index-slot.result.now) (sym c.deref.ensures.value)) in
    ap is_some (sym there.3 ∙ ap (λ s. map.get (held s) (c.args.path.now, c.args.stamp)) c.self.view_is)

pub returns-clause-rest : goal.returns-clause-rest
returns-clause-rest g c =
    let is =
    subst (λ o. IsIndex c.self.inside.last c.self.inside.slots.slots o c.self.inside.postings) (sym c.deref.ensures.value)
    c.self.invariant in
    left_held c.self.inside.slots.slots c.self.inside.order.items c.self.inside.postings c.self.invariant
    c.index-slot.result.now c.in-Some.page (sym c.in-Some.ensures.value) c.try_remove.new.self.slots
    c.in-Some.ensures.updates.changed c.in-Some.ensures.updates.others
    ∙ ap (map.remove (held c.self.inside.slots.slots))
    (has_pair c.self.inside.slots.slots c.deref.result.now c.self.inside.postings is (c.args.path.now, c.args.stamp) c.in-Ok.at
    c.index-slot.result.now c.in-Ok.ensures.place
    (c.index-slot.ensures ∙ ap (λ o. get_or o c.in-Ok.at c.index-slot.result.now) (sym c.deref.ensures.value))
    c.in-Some.page (sym c.in-Some.ensures.value))
    ∙ ap (λ s. map.remove (held s) (c.args.path.now, c.args.stamp)) c.self.view_is
