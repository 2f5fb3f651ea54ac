use Rattle.std.proofs.Common.{arith, ap, length, length-set, refl, subst, sym, ◌∙◌}
use Rattle.doc_words_search.proofs.PlaceSteps.{SetBut, all_set, none_set, set_next}
use Rattle.doc_words_search.proofs.weighing.set_counts.Goals as goal

pub loop-slot-init : goal.loop-slot-init
loop-slot-init c = record {
  same = refl;
  set = subst (λ left. SetBut left c.args.counts.now c.args.row.now)
      (sym (c.into_iter-slot-iterator.ensures.into_iter_gives ∙ c.iter-slot-items.ensures))
      (none_set c.args.row.now c.args.counts.now c.requires);
}

pub loop-slot-preserved : goal.loop-slot-preserved
loop-slot-preserved c = record {
  same = ap length c.set_count.ensures ∙ length-set c.loop-slot.counts c.in-Some.slot _ ∙ c.loop-slot.invariant.same;
  set = set_next c.loop-slot.slot-iterator c.next.new.self c.loop-slot.counts c.set_count.new.counts c.args.row.now c.in-Some.slot
      c.in-Some.count c.in-Some.ensures.steps c.set_count.ensures c.loop-slot.invariant.set;
}

pub returns-clause-each : goal.returns-clause-each
returns-clause-each c = λ slot low.
    all_set c.loop-slot.slot-iterator c.loop-slot.counts c.args.row.now c.in-None.ensures.steps.0 c.loop-slot.invariant.set slot
    (omega (arith, low, c.loop-slot.invariant.same))
