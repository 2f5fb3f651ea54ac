use Rattle.std.proofs.Common.{sym, arith}
use Rattle.doc_resolve.proofs.DotSteps.{texts, put_all-none, put_out-turn}
use Rattle.doc_resolve.proofs.dot_segments.put_each.Goals as goal

pub loop-segment-init : goal.loop-segment-init
loop-segment-init c = sym (put_all-none (texts c.args.out.now.items))

pub loop-segment-preserved : goal.loop-segment-preserved
loop-segment-preserved c =
    put_out-turn c.args.segments.now c.loop-segment.segment-index (texts c.args.out.now.items) (texts c.loop-segment.out.items)
    (texts c.put_out.new.out.items) _ (omega arith) c.loop-segment.invariant c.in_ok-put_out.ensures
