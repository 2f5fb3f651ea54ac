use Rattle.std.proofs.Common.{sym, ◌∙◌}
use Rattle.doc_store.proofs.RowSteps.{place_behind, place_found}
use Rattle.doc_store.proofs.numbers.place_of.Goals as goal

pub returns-then-lt : goal.returns-then-lt
returns-then-lt c =
    place_behind c.args.path.now c.args.paths.now c.requires c.in-Some.last.now c.in-Some.ensures.value (sym c.lt.ensures ∙ c.if-lt.true)

pub returns : goal.returns
returns c =
    place_found c.args.path.now c.args.paths.now c.requires c.binary_search.result c.binary_search.ensures.bound
    c.binary_search.ensures.position
