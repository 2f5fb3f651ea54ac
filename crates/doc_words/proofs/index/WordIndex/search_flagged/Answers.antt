use Rattle.std.proofs.Common.{ap, length, subst, sym, ◌∙◌}
use Rattle.doc_words_search.specs.Searches.{pages_of}
use Rattle.doc_words_search.specs.SearchSteps.{AreInOrder, flagged}
use Rattle.doc_words_search.proofs.FlagSteps.{flagged_in_order, flagged_search, held_in_order}
use Rattle.doc_words_search.proofs.HeldSteps.{pages_in_order}
use Rattle.doc_words_search.proofs.SearchSteps.{told}
use Rattle.doc_words.proofs.index.WordIndex.search_flagged.Goals as goal

pub search_in_order-requires : goal.search_in_order-requires
search_in_order-requires c =
    let slots = c.self.inside.pages in
    let in_order = c.in_ok-slots.slots.items in
    subst (AreInOrder slots)
    (sym (c.deref-2.ensures.value ∙ c.in_ok-seen.ensures ∙ ap (flagged c.args.flags.now) c.deref.ensures.value))
    (flagged_in_order slots c.args.flags.now in_order
    (held_in_order slots in_order c.in_ok-slots.ensures.present c.in_ok-slots.ensures.entries))

pub returns : goal.returns
returns c goals are =
    let slots = c.self.inside.pages in
    let flags = c.args.flags.now in
    let in_order = c.in_ok-slots.slots.items in
    told c.search_in_order.result (λ hits is. is
    ∙ flagged_search slots goals flags in_order c.deref-2.result.now (pages_of c.args.self.now) c.args.words.now c.len.result
    (held_in_order slots in_order c.in_ok-slots.ensures.present c.in_ok-slots.ensures.entries)
    (c.deref-2.ensures.value ∙ c.in_ok-seen.ensures ∙ ap (flagged flags) c.deref.ensures.value)
    (c.len.ensures ∙ c.in_ok-seen.seen.ok.0 ∙ ap length (sym c.deref-2.ensures.value))
    (sym (ap pages_of c.self.view_is) ∙ pages_in_order slots in_order c.in_ok-slots.ensures.entries)
    are) c.search_in_order.ensures
