use Rattle.std.proofs.Common.{drop}
use Rattle.doc_links_seen.proofs.FlagSteps.{IsFlagged}
use Rattle.doc_links_seen.proofs.seen.slots_flagged.Given as goal

-- what is flagged so far, and what is left
abbrev pub invariant-loop-slot : goal.invariant-loop-slot
invariant-loop-slot l = IsFlagged l.index l.flags l.slots (drop l.slot-index l.slots) l.rest l.all.items
