use Rattle.std.proofs.Common.{sym}
use Rattle.doc_store_readers.proofs.GroupSteps.{place_found, place_before}
use Rattle.doc_store_readers.proofs.names.place_of.Goals as goal

pub returns-in-Equal-clause-place : goal.returns-in-Equal-clause-place
returns-in-Equal-clause-place c =
    place_found (λ name. name.now) c.args.name.now c.args.names.now c.loop-place.place _ c.loop-place-test.true c.loop-place.invariant
    (sym c.in-Equal.ensures)

pub returns-in-Less-clause-place : goal.returns-in-Less-clause-place
returns-in-Less-clause-place c =
    place_before (λ name. name.now) c.args.name.now c.args.names.now c.loop-place.place _ c.loop-place-test.true c.loop-place.invariant
    (sym c.in-Less.ensures)
