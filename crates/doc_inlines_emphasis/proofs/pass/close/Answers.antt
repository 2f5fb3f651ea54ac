use Rattle.std.proofs.Common.{◌≡◌, false, length, get_or, ap, sym, ◌∙◌, subst, arith}
use Rattle.doc_rules.specs.Inlines as rules
use Rattle.doc_inlines_emphasis.specs.declared.delimiter.Delimiter.TheVariants.{Star}
use Rattle.doc_inlines_emphasis.specs.declared.run.Run.{Run}
use Rattle.doc_inlines_emphasis.specs.Steps.{GoesOn, GoesPast}
use Rattle.doc_inlines_emphasis.proofs.NumberLaws.{run_is}
use Rattle.doc_inlines_emphasis.proofs.PassLaws.{goes_more, goes_long, past_emptied, past_failed, past_not_closing}
use Rattle.doc_inlines_emphasis.proofs.pass.close.Goals as goal

abbrev blank : Run
blank = record { first = 0; left = 0; length = 0; delimiter = Star; opens = false; closes = false }

pub returns-then-not-runs-number-clause-past : goal.returns-then-not-runs-number-clause-past
returns-then-not-runs-number-clause-past c =
    past_not_closing c.args.marks.now.items c.args.runs.now c.args.openers.now.numbers.items c.args.number blank c.requires.within
    c.if-not-runs-number.true

pub returns-in_default-clause-past : goal.returns-in_default-clause-past
returns-in_default-clause-past c =
    subst (λ v. GoesPast c.args.marks.now.items c.loop-runs.marks.items c.args.runs.now c.loop-runs.runs c.args.openers.now.numbers.items
    v.items
    c.args.number) (sym c.search.ensures.numbers)
    (past_failed c.args.marks.now.items c.loop-runs.marks.items c.args.runs.now c.loop-runs.runs c.args.openers.now.numbers.items
    c.loop-runs.openers.numbers.items c.args.number c.loop-runs.invariant.goes c.in_default.ensures.nearest)

pub loop-runs-preserved : goal.loop-runs-preserved
loop-runs-preserved c = record {
  stands = c.pair.ensures.stands;
  stacked = c.pair.ensures.stacked;
  size = c.pair.ensures.size ∙ c.loop-runs.invariant.size;
  closes = c.pair.ensures.closes ∙ c.loop-runs.invariant.closes;
  goes =
      goes_more c.args.marks.now.items c.loop-runs.marks.items c.pair.new.marks.items c.args.runs.now c.loop-runs.runs c.pair.new.runs
      c.args.openers.now.numbers.items c.loop-runs.openers.numbers.items c.pair.new.openers.numbers.items c.args.number
      (goes_long c.args.marks.now.items c.loop-runs.marks.items c.args.runs.now c.loop-runs.runs c.args.openers.now.numbers.items
      c.loop-runs.openers.numbers.items c.args.number c.requires.stands c.loop-runs.invariant.goes)
      c.loop-runs.invariant.goes
      (subst (λ v. GoesOn c.loop-runs.marks.items c.pair.new.marks.items c.loop-runs.runs c.pair.new.runs v.items
      c.pair.new.openers.numbers.items
      c.args.number) c.search.ensures.numbers c.pair.ensures.goes);
}

pub returns-clause-past : goal.returns-clause-past
returns-clause-past c =
    let same : length c.loop-runs.runs ≡ length c.args.runs.now = c.loop-runs.invariant.size in
    let none : (get_or c.loop-runs.runs c.args.number blank).left ≡ 0 = omega arith in
    past_emptied c.args.marks.now.items c.loop-runs.marks.items c.args.runs.now c.loop-runs.runs c.args.openers.now.numbers.items
    c.loop-runs.openers.numbers.items c.args.number c.loop-runs.invariant.goes
    (ap (λ (r : rules.Run). r.left) (run_is c.loop-runs.runs c.args.number blank (omega arith)) ∙ none)
