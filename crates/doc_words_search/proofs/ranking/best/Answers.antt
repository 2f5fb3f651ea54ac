use Rattle.std.proofs.Common.{◌≡◌, ◌∷◌, ◌≤◌, ◌∙◌, ap, arith, length, subst, sym, take}
use Rattle.std.specs.Prelude.{map as mapped}
use Rattle.std.specs.List.{All}
use Rattle.std.proofs.lemmas.Result.{IfOk-weaker}
use Rattle.doc_words_search.specs.Searches.{ranked}
use Rattle.doc_words_search.specs.SearchSteps.{hit_placed}
use Rattle.doc_words_search.proofs.RankSteps.{all_first}
use Rattle.doc_words_search.proofs.ScoredSteps.{IsBelow, first_below, first_hits}
use Rattle.doc_words_search.proofs.ranking.best.Goals as goal

pub returns-then-len-le-MOST : goal.returns-then-len-le-MOST
returns-then-len-le-MOST c =
    let hit = hit_placed c.args.pages.now c.args.seen.now in
    let short : length c.args.found.items ≤ 100 = omega (arith, c.len.ensures, c.if-len-le-MOST.true) in
    IfOk-weaker c.sorted.result (λ hits. hits ≡ ranked (mapped hit c.deref_mut.result.now))
    (λ hits. hits ≡ take 100 (ranked (mapped hit c.args.found.items)))
    (λ hits is. is ∙ ap (λ xs. ranked (mapped hit xs)) c.deref_mut.ensures.value ∙ all_first hit c.args.found.items 100 short)
    c.sorted.ensures

pub sorted-requires-2-clause-within : goal.sorted-requires-2-clause-within
sorted-requires-2-clause-within c =
    let parts = c.select_nth_unstable-first.result in
    first_below c.args.pages.now c.args.seen.now c.deref_mut-2.result.now parts.0.now (parts.1.now ∷ parts.2.now)
    (subst (All (IsBelow (length c.args.seen.now))) (sym c.deref_mut-2.ensures.value) c.requires.within)
    c.select_nth_unstable-first.ensures.permutation

pub returns : goal.returns
returns c =
    let hit = hit_placed c.args.pages.now c.args.seen.now in
    let parts = c.select_nth_unstable-first.result in
    IfOk-weaker c.sorted-2.result (λ hits. hits ≡ ranked (mapped hit parts.0.now))
    (λ hits. hits ≡ take 100 (ranked (mapped hit c.args.found.items)))
    (λ hits is. is
    ∙ first_hits c.args.pages.now c.args.seen.now c.deref_mut-2.result.now parts.0.now parts.1.now parts.2.now 100 c.requires.order
    (subst (All (IsBelow (length c.args.seen.now))) (sym c.deref_mut-2.ensures.value) c.requires.within)
    c.select_nth_unstable-first.ensures.permutation c.select_nth_unstable-first.ensures.front_len
    c.select_nth_unstable-first.ensures.partitioned
    ∙ ap (λ xs. take 100 (ranked (mapped hit xs))) c.deref_mut-2.ensures.value)
    c.sorted-2.ensures
