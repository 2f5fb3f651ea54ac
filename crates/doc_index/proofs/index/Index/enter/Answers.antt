use Rattle.std.proofs.Common.{ap, rules, subst, sym, ◌∙◌, insert}
use Rattle.std.specs.FinMap as map
use Rattle.slab.specs.Slab.{Slab}
use Rattle.doc_index.specs.declared.held.Held.{Held}
use Rattle.doc_index.specs.Held.{held, known}
use Rattle.doc_index.specs.IndexSteps.{IsIndex}
use Rattle.doc_index.proofs.HeldSteps.{pair_of}
use Rattle.doc_index.proofs.IndexSteps.{entered, entered_held, free_place}
use Rattle.doc_index.proofs.index.Index.enter.Goals as goal

pub invariant_of-self-2 : goal.invariant_of-self-2
invariant_of-self-2 g c =
    let kept = ap (λ (s : Slab (Held g.row.T.Denot)). s.slots) c.reserve.ensures.rest_kept in
    let is = subst (λ s. IsIndex c.self.inside.last s c.self.inside.order.items c.self.inside.postings) (sym kept) c.self.invariant in
    let shown = subst (λ o. IsIndex c.self.inside.last c.reserve.new.self.slots o c.self.inside.postings) (sym c.deref.ensures.value) is in
    let free = ap (λ s. map.get (held s) (pair_of c.args.page)) (kept ∙ c.self.view_is) ∙ c.requires.free in
    let place =
    free_place c.reserve.new.self.slots c.deref.result.now c.self.inside.postings shown (pair_of c.args.page) free c.search.result
    c.unwrap_or_else-at.result c.search.ensures.within c.search.ensures.place c.unwrap_or_else-at.ensures (λ x post. search rules) in
    entered c.reserve.new.self.slots c.deref.result.now c.self.inside.postings shown c.vacant_key-slot.result c.args.page
    c.vacant_key-slot.ensures.vacant free
    c.insert_reserved.new.self.slots c.insert_reserved.result (c.insert_reserved.ensures.key ∙ sym c.vacant_key-slot.ensures.value)
    c.insert_reserved.ensures.updates.changed c.insert_reserved.ensures.updates.others
    c.unwrap_or_else-at.result c.place.new.order.items c.place.new.postings c.later-self-inside.result place.0 place.1
    (c.in_ok-place.ensures.order
    ∙ ap (λ o. insert o c.unwrap_or_else-at.result c.vacant_key-slot.result) (sym c.deref.ensures.value))
    c.later-self-inside.ensures.first c.later-self-inside.ensures.second c.in_ok-place.ensures.postings

pub returns-clause-ok : goal.returns-clause-ok
returns-clause-ok g c =
    let kept = ap (λ (s : Slab (Held g.row.T.Denot)). s.slots) c.reserve.ensures.rest_kept in
    let is = subst (λ s. IsIndex c.self.inside.last s c.self.inside.order.items c.self.inside.postings) (sym kept) c.self.invariant in
    let free = ap (λ s. map.get (held s) (pair_of c.args.page)) (kept ∙ c.self.view_is) ∙ c.requires.free in
    entered_held c.reserve.new.self.slots c.self.inside.order.items c.self.inside.postings is c.vacant_key-slot.result c.args.page
    c.vacant_key-slot.ensures.vacant free
    c.insert_reserved.new.self.slots c.insert_reserved.result (c.insert_reserved.ensures.key ∙ sym c.vacant_key-slot.ensures.value)
    c.insert_reserved.ensures.updates.changed c.insert_reserved.ensures.updates.others
    ∙ ap (λ s. map.insert (held s) (pair_of c.args.page) (known c.args.page)) (kept ∙ c.self.view_is)
