use Rattle.std.proofs.Common.{ap, sym, ◌∙◌}
use Rattle.std.proofs.lemmas.Cmp.{nat_list_cmp_total}
use Rattle.std.proofs.lemmas.Map.Lookups.{exact_bytes}
use Rattle.doc_store.proofs.SumSteps.{none_to_take}
use Rattle.doc_store.specs.Store.{with_key_at}
use Rattle.doc_store.proofs.numbers.Numbers.rename.Goals as goal

pub returns-in_default : goal.returns-in_default
returns-in_default c =
    c.take.ensures.rest
    ∙ sym (none_to_take nat_list_cmp_total exact_bytes c.args.self.now c.args.from.now (sym c.in_default.ensures.number))
    ∙ ap (with_key_at c.args.self.now c.args.from.now c.args.to.now) c.in_default.ensures.number
