use Rattle.std.proofs.Common.{◌≡◌, take}
use Rattle.doc_links.specs.WrittenSteps.{sources_at}
use Rattle.doc_links.proofs.written.sources_at.Given as goal

-- the slots so far
abbrev pub invariant-loop-slot : goal.invariant-loop-slot
invariant-loop-slot l = l.all.items ≡ sources_at l.pages l.counts (take l.slot-index l.slots)
