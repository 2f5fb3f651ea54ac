use Rattle.std.proofs.Common.{take}
use Rattle.doc_inlines.proofs.OwnedLaws.{AreOwned}
use Rattle.doc_inlines.proofs.mark.owned.Given as goal

abbrev pub invariant-loop-mark : goal.invariant-loop-mark
invariant-loop-mark l = AreOwned l.made.items (take l.mark-index l.marks)
