use Rattle.std.proofs.Common.{ap, ◌∙◌, arith}
use Rattle.std.specs.Prelude.{sum_by}
use Rattle.doc_store.proofs.CountSteps.{values_are}
use Rattle.doc_store.specs.GroupSets.{NumberedSets, met_at, slot_at}
use Rattle.doc_store.proofs.group_sets.GroupSets.count_met.Goals as goal

pub loop-number-init : goal.loop-number-init
loop-number-init c =
    let all = ap (sum_by (λ number. met_at c.args.groups.now (slot_at c.args.self.now number)))
    (c.into_iter-number-iterator.ensures.into_iter_gives ∙ c.values-number-items.ensures.rest
    ∙ values_are c.self.inside.numbers.entries c.args.self.now.numbers c.values-number-items.ensures.ordered
    (ap (λ (s : NumberedSets). s.numbers) c.self.view_is)) in
    omega (arith, all)
