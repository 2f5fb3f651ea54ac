use Rattle.std.proofs.Common.{arith, refl}
use Rattle.doc_index_tables.proofs.CountSteps.{taken_next, taken_first}
use Rattle.doc_index.proofs.counts.Counts.take_from.Goals as goal

pub loop-left-preserved : goal.loop-left-preserved
loop-left-preserved c = record {
  within = omega (arith, c.loop-left.invariant.within);
  done = taken_next c.self.inside.entries c.args.slot c.args.table.now c.loop-left.table c.take.new.self c.loop-left.left
      (c.get.result.0.now, c.get.result.1) c.get.result.0.now (omega (arith, c.loop-left-test.true)) c.loop-left.invariant.within
      c.get.ensures refl c.take.ensures c.loop-left.invariant.done;
}

pub returns : goal.returns
returns c =
    taken_first c.self.inside.entries c.args.slot c.args.table.now c.loop-left.table c.loop-left.table c.loop-left.left
    c.args.self.now c.self.view_is (omega (arith, c.loop-left-test.false)) c.loop-left.invariant.done
