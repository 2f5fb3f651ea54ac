use Rattle.std.proofs.Common.{arith, sym}
use Rattle.std.proofs.lemmas.List.{length-take-le, take_all}
use Rattle.doc_people_lists.proofs.fronts.shown_sources.Goals as goal

pub returns-then-sources-le-LIST_LIMIT : goal.returns-then-sources-le-LIST_LIMIT
returns-then-sources-le-LIST_LIMIT c = sym (take_all 200 c.args.sources.now c.if-sources-le-LIST_LIMIT.true)

pub slice_bounds-result-end : goal.slice_bounds-result-end
slice_bounds-result-end c = sym (length-take-le 200 c.args.sources.now (omega arith))
