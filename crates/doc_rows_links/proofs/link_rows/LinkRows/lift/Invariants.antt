use Rattle.std.proofs.Common.{take}
use Rattle.doc_rows_links.specs.LinkSteps.{AllHaveLess, lifted}
use Rattle.doc_rows_links.proofs.link_rows.LinkRows.lift.Given as goal

-- out of the rows of what the links so far write
abbrev pub invariant-loop-link : goal.invariant-loop-link
invariant-loop-link l = AllHaveLess l.fn.self l.path (lifted l.groups (take l.link-index l.links)) l.self
