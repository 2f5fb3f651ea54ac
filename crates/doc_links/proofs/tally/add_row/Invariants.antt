use Rattle.std.proofs.Common.{◌≡◌}
use Rattle.std.specs.FinMap as map
use Rattle.doc_links.specs.IndexSteps.{with_row}
use Rattle.doc_links.proofs.tally.add_row.Given as goal

-- what is left of the row is still to be added
abbrev pub invariant-loop-slot : goal.invariant-loop-slot
invariant-loop-slot g l =
    with_row l.pages (g.S.Sight.goals l.sight) l.tally l.slot-iterator
    ≡ with_row l.pages (g.S.Sight.goals l.sight) l.fn.tally (map.entries l.row)
