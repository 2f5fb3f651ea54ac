use Rattle.std.proofs.Common.{arith, chars, length, ◌+◌, ◌≤◌}
use Rattle.doc_people_search.proofs.PartSteps.{found_none, read_fits}
use Rattle.doc_people_search.proofs.parts.match_at.Goals as goal

pub overflow_add-at : goal.overflow_add-at
overflow_add-at c =
    let fits : c.loop-part.at + c.character_count-at.result ≤ length c.args.text.now =
    read_fits c.loop-part.at c.character_count-at.result c.args.text.now (chars c.loop-part.rest.now) _ _ c.utf8.text
    c.loop-part.invariant.read c.in-Some.ensures.whole c.character_count-at.ensures in
    omega arith

pub returns : goal.returns
returns c =
    found_none c.args.terms.now (chars c.args.text.now) (chars c.loop-part.rest.now) c.loop-part.at c.loop-part.invariant.same
    c.in_default.ensures.none
