use Rattle.std.proofs.Common.{arith, false, length, Some, None, ap, sym, ◌∙◌, subst}
use Rattle.doc_rules.specs.Inlines as rules
use Rattle.doc_inlines_emphasis.specs.Openers.{AreBounds, Ascend, StandBefore}
use Rattle.doc_inlines_emphasis.specs.NumberSteps.{run_numbered}
use Rattle.doc_inlines_emphasis.specs.RunSteps.{all_placed}
use Rattle.doc_inlines_emphasis.specs.declared.delimiter.Delimiter.TheVariants.{Star}
use Rattle.doc_inlines_emphasis.specs.declared.run.Run.{Run}
use Rattle.doc_inlines_emphasis.proofs.NumberLaws.{run_is, nearest_told, stand_within, search_failed}
use Rattle.doc_inlines_emphasis.proofs.openers.Openers.search.Goals as goal

abbrev blank : Run
blank = record { first = 0; left = 0; length = 0; delimiter = Star; opens = false; closes = false }

pub nearest-requires-clause-bounded : goal.nearest-requires-clause-bounded
nearest-requires-clause-bounded c =
    subst (λ xs. AreBounds c.args.self.now.bounds (run_numbered (all_placed c.args.runs.now)) xs) (sym c.deref.ensures.value)
    c.requires.stacked.bounded

pub nearest-requires-clause-ascend : goal.nearest-requires-clause-ascend
nearest-requires-clause-ascend c = subst (λ xs. Ascend xs) (sym c.deref.ensures.value) c.requires.stacked.ascend

pub nearest-requires-clause-within : goal.nearest-requires-clause-within
nearest-requires-clause-within c =
    subst (λ xs. StandBefore (length c.args.runs.now) xs) (sym c.deref.ensures.value)
    (stand_within c.args.number (length c.args.runs.now) c.args.self.now.numbers.items c.requires.stacked.before c.requires.within)

pub nearest-requires-clause-closes : goal.nearest-requires-clause-closes
nearest-requires-clause-closes c =
    sym (ap (λ (r : rules.Run). r.closes) (run_is c.args.runs.now c.args.number blank c.requires.within)) ∙ c.requires.closes

pub returns-in-Some-clause-nearest : goal.returns-in-Some-clause-nearest
returns-in-Some-clause-nearest c =
    nearest_told c.args.runs.now c.args.self.now.numbers.items c.deref.result.now c.args.number blank (Some c.in-Some.place)
    c.requires.within c.deref.ensures.value c.in-Some.ensures

pub returns-in-Some-clause-stacked : goal.returns-in-Some-clause-stacked
returns-in-Some-clause-stacked c = c.requires.stacked

pub returns-in-None-clause-nearest : goal.returns-in-None-clause-nearest
returns-in-None-clause-nearest c =
    nearest_told c.args.runs.now c.args.self.now.numbers.items c.deref.result.now c.args.number blank None c.requires.within
    c.deref.ensures.value c.in-None.ensures

pub returns-in-None-clause-stacked : goal.returns-in-None-clause-stacked
returns-in-None-clause-stacked c =
    search_failed c.args.runs.now c.args.self.now.numbers.items c.deref.result.now c.args.self.now.bounds c.args.number c.kind.result blank
    c.requires.stacked c.requires.within c.requires.closes
    c.deref.ensures.value c.in-None.ensures c.kind.ensures.kind (omega arith)
