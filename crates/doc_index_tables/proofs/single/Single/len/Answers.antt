use Rattle.std.proofs.Common.{ap, length, sym, ◌∙◌}
use Rattle.std.specs.Option.{option_to_list}
use Rattle.doc_index_tables.proofs.SingleSteps.{one_len}
use Rattle.doc_index_tables.proofs.single.Single.len.Goals as goal

pub returns-in-Some : goal.returns-in-Some
returns-in-Some c =
    ap (λ entry. length (option_to_list entry)) (sym c.in-Some.is) ∙ one_len c.self.inside.entry c.args.self.now c.self.view_is

pub returns-in-None : goal.returns-in-None
returns-in-None c =
    ap (λ entry. length (option_to_list entry)) (sym c.in-None.is) ∙ one_len c.self.inside.entry c.args.self.now c.self.view_is
