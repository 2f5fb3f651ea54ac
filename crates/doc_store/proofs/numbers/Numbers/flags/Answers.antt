use Rattle.std.proofs.Common.{ap, false, map as mapped, sym, ◌∙◌}
use Rattle.std.specs.Prelude.{slice_index_or}
use Rattle.std.specs.FinMap as map
use Rattle.std.proofs.lemmas.List.{take_all}
use Rattle.doc_store.proofs.RowSteps.{values_are}
use Rattle.doc_store.proofs.numbers.Numbers.flags.Goals as goal

pub returns : goal.returns
returns c =
    c.loop-number.invariant
    ∙ ap (mapped (λ number. slice_index_or c.args.seen.now number false))
    (take_all c.loop-number.number-index c.deref-number-items.result.now c.loop-number-test.false
    ∙ c.deref-number-items.ensures.value
    ∙ sym (values_are c.self.inside.paths.items c.self.inside.numbers.items c.self.invariant)
    ∙ ap map.values c.self.view_is)
