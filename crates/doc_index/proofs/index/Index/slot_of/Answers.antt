use Rattle.std.proofs.Common.{ap, get_or, is_some, subst, sym, ◌∙◌}
use Rattle.std.specs.FinMap as map
use Rattle.doc_index.specs.Held.{held, slot_at}
use Rattle.doc_index.specs.IndexSteps.{IsIndex}
use Rattle.doc_index.proofs.IndexSteps.{none_found, stands}
use Rattle.doc_index.proofs.index.Index.slot_of.Goals as goal

pub returns-in_default-clause-held : goal.returns-in_default-clause-held
returns-in_default-clause-held g c =
    let is =
    subst (λ o. IsIndex c.self.inside.last c.self.inside.slots.slots o c.self.inside.postings) (sym c.deref.ensures.value)
    c.self.invariant in
    ap is_some (sym (none_found c.self.inside.slots.slots c.deref.result.now c.self.inside.postings is (c.args.path.now, c.args.stamp)
    c.in_default.field-0 c.in_default.ensures.within c.in_default.ensures.place)
    ∙ ap (λ s. map.get (held s) (c.args.path.now, c.args.stamp)) c.self.view_is)

pub returns-clause-slot : goal.returns-clause-slot
returns-clause-slot g c =
    let is =
    subst (λ o. IsIndex c.self.inside.last c.self.inside.slots.slots o c.self.inside.postings) (sym c.deref.ensures.value)
    c.self.invariant in
    let there =
    stands c.self.inside.slots.slots c.deref.result.now c.self.inside.postings is (c.args.path.now, c.args.stamp) c.in-Ok.at
    c.index.result.now c.in-Ok.ensures.place
    (c.index.ensures ∙ ap (λ o. get_or o c.in-Ok.at c.index.result.now) (sym c.deref.ensures.value)) in
    (there.0, ap (λ s. slot_at s c.index.result.now) (sym c.self.view_is) ∙ there.1, ap (λ p. p.0) there.2, ap (λ p. p.1) there.2)

pub returns-clause-held : goal.returns-clause-held
returns-clause-held g c =
    let is =
    subst (λ o. IsIndex c.self.inside.last c.self.inside.slots.slots o c.self.inside.postings) (sym c.deref.ensures.value)
    c.self.invariant in
    let there =
    stands c.self.inside.slots.slots c.deref.result.now c.self.inside.postings is (c.args.path.now, c.args.stamp) c.in-Ok.at
    c.index.result.now c.in-Ok.ensures.place
    (c.index.ensures ∙ ap (λ o. get_or o c.in-Ok.at c.index.result.now) (sym c.deref.ensures.value)) in
    ap is_some (sym there.3 ∙ ap (λ s. map.get (held s) (c.args.path.now, c.args.stamp)) c.self.view_is)
