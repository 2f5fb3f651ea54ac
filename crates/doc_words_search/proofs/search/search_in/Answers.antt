use Rattle.std.proofs.Common.{ap, ◌∙◌}
use Rattle.std.specs.Prelude.{map as mapped}
use Rattle.std.specs.List.{flat_map}
use Rattle.doc_words_search.specs.SearchSteps.{hit_at, hit_of}
use Rattle.doc_words_search.proofs.SearchSteps.{search_is, told}
use Rattle.doc_words_search.proofs.search.search_in.Goals as goal

pub returns : goal.returns
returns c =
    told c.best.result (λ hits is. is
    ∙ search_is c.args.pages.now c.args.words.now c.in_ok-weighed.weighed.items c.args.count c.args.seen.now
    (mapped hit_of c.in_ok-found.found.items)
    c.in_ok-weighed.ensures
    (c.in_ok-found.ensures ∙ ap (λ words. flat_map (hit_at c.args.pages.now words) c.args.seen.now) c.deref.ensures.value))
    c.best.ensures
