use Rattle.std.proofs.Common.{arith, drop, sym, subst, refl, ◌∙◌}
use Rattle.doc_index_tables.proofs.CountSteps.{HasEntries, err_then, ok_then, set_next, set_first, undone}
use Rattle.doc_index.proofs.counts.Counts.add_to.Goals as goal

pub returns-then-is_err-clause-err : goal.returns-then-is_err-clause-err
returns-then-is_err-clause-err c =
    let same = err_then c.set.result (sym c.is_err.ensures.value ∙ c.if-is_err.true) c.set.ensures.err in
    undone c.args.slot c.args.table.now c.set.new.self c.self.inside.entries c.loop-left.left c.args.self.now c.take_from.new.table
    c.self.view_is c.requires
    (subst (HasEntries (drop c.loop-left.left c.self.inside.entries) c.args.slot c.args.table.now) (sym same)
    c.loop-left.invariant.done)
    c.take_from.ensures

pub loop-left-preserved : goal.loop-left-preserved
loop-left-preserved c = record {
  within = omega (arith, c.loop-left.invariant.within);
  done = set_next c.self.inside.entries c.args.slot c.args.table.now c.loop-left.table c.set.new.self c.loop-left.left
      (c.get-count.result.0.now, c.get-count.result.1) c.get-count.result.0.now (omega (arith, c.loop-left-test.true))
      c.loop-left.invariant.within
      c.get-count.ensures refl (ok_then c.set.result (sym c.is_err.ensures.value ∙ c.if-is_err.false) c.set.ensures.ok)
      c.loop-left.invariant.done;
}

pub returns-clause-ok : goal.returns-clause-ok
returns-clause-ok c =
    set_first c.self.inside.entries c.args.slot c.args.table.now c.loop-left.table c.loop-left.table c.loop-left.left
    c.args.self.now c.self.view_is (omega (arith, c.loop-left-test.false)) c.loop-left.invariant.done
