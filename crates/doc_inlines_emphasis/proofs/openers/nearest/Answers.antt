use Rattle.std.proofs.Common.{false, sym, ◌∙◌, arith}
use Rattle.doc_inlines_emphasis.specs.declared.delimiter.Delimiter.TheVariants.{Star}
use Rattle.doc_inlines_emphasis.specs.declared.run.Run.{Run}
use Rattle.doc_inlines_emphasis.proofs.NumberLaws.{search_missed, search_found, search_ended}
use Rattle.doc_inlines_emphasis.proofs.openers.nearest.Goals as goal

abbrev blank : Run
blank = record { first = 0; left = 0; length = 0; delimiter = Star; opens = false; closes = false }

pub loop-place-init : goal.loop-place-init
loop-place-init c = record { within = omega arith; missed = λ place least less. absurd (omega arith) }

pub loop-place-preserved : goal.loop-place-preserved
loop-place-preserved c = record {
  within = omega arith;
  missed =
      search_missed c.args.runs.now c.args.numbers.now c.args.closer blank c.loop-place.place c.loop-place-test.true
      c.loop-place.invariant.within c.requires.within c.loop-place.invariant.missed (sym c.opens_for.ensures ∙ c.if-opens_for.false);
}

pub returns : goal.returns
returns c = λ place least less. c.loop-place.invariant.missed place (omega arith) less

pub returns-then-number-bound : goal.returns-then-number-bound
returns-then-number-bound c =
    search_ended c.args.runs.now c.args.numbers.now c.args.bounds.now c.args.closer c.loop-place.place c.kind.result
    c.loop-place-test.true c.loop-place.invariant.within c.requires.bounded c.requires.ascend c.requires.closes
    c.loop-place.invariant.missed c.kind.ensures.kind c.if-number-bound.true

pub returns-then-opens_for : goal.returns-then-opens_for
returns-then-opens_for c =
    search_found c.args.runs.now c.args.numbers.now c.args.closer blank c.loop-place.place c.loop-place-test.true
    c.loop-place.invariant.within c.requires.within c.loop-place.invariant.missed (sym c.opens_for.ensures ∙ c.if-opens_for.true)
