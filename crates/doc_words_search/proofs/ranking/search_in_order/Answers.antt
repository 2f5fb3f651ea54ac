use Rattle.std.proofs.Common.{ap, length, subst, sym, ◌∙◌}
use Rattle.std.specs.Prelude.{map as mapped}
use Rattle.std.specs.List.{All, flat_map}
use Rattle.doc_words_search.specs.SearchSteps.{hit_at, hit_placed}
use Rattle.doc_words_search.proofs.ScoredSteps.{IsBelow, found_below, hits_found}
use Rattle.doc_words_search.proofs.SearchSteps.{search_is, told}
use Rattle.doc_words_search.proofs.ranking.search_in_order.Goals as goal

pub best-requires-clause-within : goal.best-requires-clause-within
best-requires-clause-within c =
    subst (All (IsBelow (length c.args.seen.now))) (sym c.in_ok-found.ensures) (found_below c.deref.result.now c.args.seen.now)

pub returns : goal.returns
returns c =
    let slots = c.args.pages.now in
    let seen = c.args.seen.now in
    told c.best.result (λ hits is. is
    ∙ search_is slots c.args.words.now c.in_ok-weighed.weighed.items c.args.count seen
    (mapped (hit_placed slots seen) c.in_ok-found.found.items)
    c.in_ok-weighed.ensures
    (ap (mapped (hit_placed slots seen)) c.in_ok-found.ensures ∙ hits_found slots seen c.deref.result.now c.requires
    ∙ ap (λ words. flat_map (hit_at slots words) seen) c.deref.ensures.value))
    c.best.ensures
