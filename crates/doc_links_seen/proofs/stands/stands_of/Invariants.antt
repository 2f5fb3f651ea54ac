use Rattle.doc_links_seen.specs.Numbered.{AreStands}
use Rattle.doc_links_seen.proofs.stands.stands_of.Given as goal

-- the slots so far stand
abbrev pub invariant-loop-slot : goal.invariant-loop-slot
invariant-loop-slot l = AreStands l.slots l.numbers l.stands.items
