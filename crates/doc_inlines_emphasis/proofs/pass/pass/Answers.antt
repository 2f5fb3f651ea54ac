use Rattle.std.proofs.Common.{◌≡◌, suc, ◌+◌, length, refl, sym, ◌∙◌, subst, arith}
use Rattle.doc_inlines_emphasis.specs.PassSteps.{Stacked}
use Rattle.doc_inlines_emphasis.proofs.NumberLoops.{stacked_next}
use Rattle.doc_inlines_emphasis.specs.RunSteps.{all_placed}
use Rattle.doc_inlines_emphasis.specs.Steps.{WalksOn}
use Rattle.doc_inlines_emphasis.proofs.PassLaws.{walks_start, stacked_start, walks_stand, walks_past, wrapped_all}
use Rattle.doc_inlines_emphasis.proofs.pass.pass.Goals as goal

pub loop-number-init : goal.loop-number-init
loop-number-init c = record {
  walks = subst (λ t. WalksOn c.args.marks.now.items c.args.marks.now.items c.args.runs.now c.args.runs.now t 0) (sym
      c.start.ensures.numbers)
      (walks_start c.args.marks.now.items c.args.runs.now);
  stacked = rw (c.start.ensures.numbers, c.start.ensures.bounds) (stacked_start c.args.runs.now);
  size = refl;
}

pub close-requires-clause-stands : goal.close-requires-clause-stands
close-requires-clause-stands c =
    let same : length c.loop-number.runs ≡ length c.args.runs.now = c.loop-number.invariant.size in
    walks_stand c.args.marks.now.items c.loop-number.marks.items c.args.runs.now c.loop-number.runs c.loop-number.openers.numbers.items
    c.loop-number.number c.requires c.loop-number.invariant.walks (omega arith)

pub loop-number-preserved : goal.loop-number-preserved
loop-number-preserved c =
    let same : length c.loop-number.runs ≡ length c.args.runs.now = c.loop-number.invariant.size in
    let next : suc c.loop-number.number ≡ c.loop-number.number + 1 = omega arith in
    record {
      walks =
          subst (λ k. WalksOn c.args.marks.now.items c.close.new.marks.items c.args.runs.now c.close.new.runs
          c.join.new.self.numbers.items k) next
          (subst (λ t. WalksOn c.args.marks.now.items c.close.new.marks.items c.args.runs.now c.close.new.runs t (suc c.loop-number.number))
          (sym c.in_ok-join.ensures.numbers)
          (walks_past c.args.marks.now.items c.loop-number.marks.items c.close.new.marks.items c.args.runs.now c.loop-number.runs
          c.close.new.runs
          c.loop-number.openers.numbers.items c.close.new.openers.numbers.items c.loop-number.number
          c.requires c.loop-number.invariant.walks (omega arith) c.close.ensures.past));
      stacked =
          subst (λ k. Stacked (all_placed c.close.new.runs) c.join.new.self.numbers.items c.join.new.self.bounds k) next
          (rw (c.in_ok-join.ensures.numbers, c.in_ok-join.ensures.bounds)
          (stacked_next (all_placed c.close.new.runs) c.close.new.openers.numbers.items c.close.new.openers.bounds c.loop-number.number
          c.close.ensures.stacked));
      size = c.close.ensures.size ∙ c.loop-number.invariant.size;
    }

pub returns : goal.returns
returns c = λ place h.
    let same : length c.loop-number.runs ≡ length c.args.runs.now = c.loop-number.invariant.size in
    wrapped_all c.args.marks.now.items c.loop-number.marks.items c.args.runs.now c.loop-number.runs c.loop-number.openers.numbers.items
    c.loop-number.number c.loop-number.invariant.walks (omega arith) place h
