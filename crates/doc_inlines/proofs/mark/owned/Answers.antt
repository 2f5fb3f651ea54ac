use Rattle.std.proofs.Common.{arith}
use Rattle.doc_inlines.proofs.OwnedLaws.{none_owned, owned_more}
use Rattle.doc_inlines.proofs.mark.owned.Goals as goal

pub loop-mark-init : goal.loop-mark-init
loop-mark-init c = none_owned _ c.in_ok-made.ensures.items

pub loop-mark-preserved : goal.loop-mark-preserved
loop-mark-preserved c =
    owned_more _ _ c.args.marks.now c.loop-mark.mark-index c.mark-item.result _ (omega arith) c.mark-item.is c.loop-mark.invariant
    c.in_ok-owned_mark.ensures c.in_ok-push.ensures.items
