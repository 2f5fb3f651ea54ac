use Rattle.std.proofs.Common.{◌≡◌, ◌≤◌, ◌∙◌, ap, arith, length, take}
use Rattle.std.specs.Prelude.{map as mapped}
use Rattle.std.proofs.lemmas.Result.{IfOk-weaker}
use Rattle.doc_words_search.specs.Searches.{ranked}
use Rattle.doc_words_search.specs.SearchSteps.{hit_of}
use Rattle.doc_words_search.proofs.RankSteps.{all_first, front_is}
use Rattle.doc_words_search.proofs.search.best.Goals as goal

pub returns-then-len-le-MOST : goal.returns-then-len-le-MOST
returns-then-len-le-MOST c =
    let short : length c.args.found.items ≤ 100 = omega (arith, c.len.ensures, c.if-len-le-MOST.true) in
    IfOk-weaker c.in_order.result (λ hits. hits ≡ ranked (mapped hit_of c.deref_mut.result.now))
    (λ hits. hits ≡ take 100 (ranked (mapped hit_of c.args.found.items)))
    (λ hits is. is ∙ ap (λ xs. ranked (mapped hit_of xs)) c.deref_mut.ensures.value ∙ all_first hit_of c.args.found.items 100 short)
    c.in_order.ensures

pub returns : goal.returns
returns c =
    let parts = c.select_nth_unstable-first.result in
    let all : c.deref_mut-2.result.now ≡ c.args.found.items = c.deref_mut-2.ensures.value in
    IfOk-weaker c.in_order-2.result (λ hits. hits ≡ ranked (mapped hit_of parts.0.now))
    (λ hits. hits ≡ take 100 (ranked (mapped hit_of c.args.found.items)))
    (λ hits is. is
    ∙ front_is hit_of c.deref_mut-2.result.now parts.0.now parts.1.now parts.2.now 100 c.select_nth_unstable-first.ensures.permutation
    c.select_nth_unstable-first.ensures.front_len c.select_nth_unstable-first.ensures.partitioned.0
    c.select_nth_unstable-first.ensures.partitioned.1
    ∙ ap (λ xs. take 100 (ranked (mapped hit_of xs))) all)
    c.in_order-2.ensures
