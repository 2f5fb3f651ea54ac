use Rattle.std.proofs.Common.{take}
use Rattle.doc_rows_links.specs.LinkRows.{AreTargets}
use Rattle.doc_rows_links.proofs.targets.Targets.of.Given as goal

-- of the links so far
abbrev pub invariant-loop-link : goal.invariant-loop-link
invariant-loop-link l = AreTargets (take l.link-index l.links) l.targets
