use Rattle.std.proofs.Common.{◌≡◌, ◌∙◌, length}
use Rattle.std.specs.Prelude.{map as mapped}
use Rattle.std.proofs.lemmas.List.Sorted.{All-permutation}
use Rattle.std.proofs.lemmas.Result.{IfOk-weaker}
use Rattle.doc_words_search.specs.Searches.{ranked}
use Rattle.doc_words_search.specs.SearchSteps.{hit_placed}
use Rattle.doc_words_search.proofs.ScoredSteps.{IsBelow, sorted_hits}
use Rattle.doc_words_search.proofs.ranking.sorted.Goals as goal

pub copied-requires-clause-within : goal.copied-requires-clause-within
copied-requires-clause-within c =
    All-permutation (IsBelow (length c.args.seen.now)) c.args.found.now c.sort_unstable.new.self c.sort_unstable.ensures.permutation
    c.requires.within

pub returns : goal.returns
returns c =
    let hit = hit_placed c.args.pages.now c.args.seen.now in
    let new = c.sort_unstable.new.self in
    IfOk-weaker c.copied.result (λ hits. hits ≡ mapped hit new) (λ hits. hits ≡ ranked (mapped hit c.args.found.now))
    (λ hits is. is
    ∙ sorted_hits c.args.pages.now c.args.seen.now c.args.found.now new c.requires.order c.requires.within
    c.sort_unstable.ensures.permutation c.sort_unstable.ensures.sorted)
    c.copied.ensures
