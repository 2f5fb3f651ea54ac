use Rattle.std.proofs.Common.{arith, chars, length, ◌+◌, ◌≤◌}
use Rattle.doc_people_search.proofs.PlaceSteps.{word_fits}
use Rattle.doc_people_search.proofs.places.last_word_len.Goals as goal

pub overflow_add-count : goal.overflow_add-count
overflow_add-count c =
    let fits : c.loop-rest.count + 1 ≤ length c.args.text.now =
    word_fits c.loop-rest.count _ c.args.text.now (chars c.loop-rest.front.now) _ c.utf8.text c.loop-rest.invariant.read
    c.in-Some.ensures in
    omega arith
