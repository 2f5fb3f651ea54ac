use Rattle.std.proofs.Common.{◌≡◌, take}
use Rattle.doc_links_seen.specs.SeenPages.{seen_pages}
use Rattle.doc_links_seen.specs.SeenSteps.{pages_at}
use Rattle.doc_links_seen.proofs.seen.pages_at.Given as goal

-- the slots so far
abbrev pub invariant-loop-slot : goal.invariant-loop-slot
invariant-loop-slot l = seen_pages l.all.items ≡ pages_at l.index (take l.slot-index l.slots)
