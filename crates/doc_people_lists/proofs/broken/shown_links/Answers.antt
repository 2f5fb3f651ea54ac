use Rattle.std.proofs.Common.{arith, sym}
use Rattle.std.proofs.lemmas.List.{length-take-le, take_all}
use Rattle.doc_people_lists.proofs.broken.shown_links.Goals as goal

pub returns-then-links-le-LINK_LIMIT : goal.returns-then-links-le-LINK_LIMIT
returns-then-links-le-LINK_LIMIT c = sym (take_all 50 c.args.links.now c.if-links-le-LINK_LIMIT.true)

pub slice_bounds-result-end : goal.slice_bounds-result-end
slice_bounds-result-end c = sym (length-take-le 50 c.args.links.now (omega arith))
