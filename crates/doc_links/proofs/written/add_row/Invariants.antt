use Rattle.std.specs.FinMap as map
use Rattle.doc_links.proofs.WrittenSteps.{IsToAdd}
use Rattle.doc_links.proofs.written.add_row.Given as goal

-- what is left of the row is still to be added
abbrev pub invariant-loop-slot : goal.invariant-loop-slot
invariant-loop-slot l = IsToAdd (map.entries l.row) l.slot-iterator l.fn.counts.items l.counts.items
