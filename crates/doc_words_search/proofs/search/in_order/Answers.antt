use Rattle.std.proofs.Common.{◌≡◌, ◌∙◌}
use Rattle.std.specs.Prelude.{map as mapped}
use Rattle.std.proofs.lemmas.Result.{IfOk-weaker}
use Rattle.doc_words_search.specs.Searches.{ranked}
use Rattle.doc_words_search.specs.SearchSteps.{hit_of}
use Rattle.doc_words_search.proofs.RankSteps.{sorted_is}
use Rattle.doc_words_search.proofs.search.in_order.Goals as goal

pub returns : goal.returns
returns c =
    IfOk-weaker c.copied.result (λ hits. hits ≡ mapped hit_of c.sort_unstable.new.self)
    (λ hits. hits ≡ ranked (mapped hit_of c.args.found.now))
    (λ hits is. is ∙ sorted_is hit_of c.args.found.now c.sort_unstable.new.self c.sort_unstable.ensures.permutation
    c.sort_unstable.ensures.sorted)
    c.copied.ensures
