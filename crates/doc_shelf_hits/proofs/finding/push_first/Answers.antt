use Rattle.std.proofs.Common.{ap, sym, ◌++◌, ◌∙◌, take}
use Rattle.std.specs.Prelude.{map as mapped}
use Rattle.std.proofs.lemmas.List.{take-map}
use Rattle.std.proofs.lemmas.Result.{on_ok_weaker}
use Rattle.doc_words_search.proofs.RankSteps.{sorted_is}
use Rattle.doc_words_search.specs.SearchSteps.{hit_of}
use Rattle.doc_shelf_hits.proofs.finding.push_first.Goals as goal

pub returns : goal.returns
returns c =
    on_ok_weaker c.push_copies.result (λ is. is
    ∙ ap (λ more. c.args.hits.now.items ++ more)
    (ap (mapped hit_of) c.first_of.ensures ∙ sym (take-map hit_of c.args.most c.sort_unstable.new.self)
    ∙ ap (take c.args.most) (sorted_is hit_of c.args.found.now c.sort_unstable.new.self c.sort_unstable.ensures.permutation
    c.sort_unstable.ensures.sorted)))
    c.push_copies.ensures
