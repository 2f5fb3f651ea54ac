use Rattle.std.proofs.Common.{◌+◌, ◌%◌, ap₂, sym, ◌∙◌}
use Rattle.doc_inlines_emphasis.proofs.RunLaws.{strike_kind_is, kind_is}
use Rattle.doc_inlines_emphasis.proofs.run.Run.kind.Goals as goal

pub returns-then-is_tilde-clause-kind : goal.returns-then-is_tilde-clause-kind
returns-then-is_tilde-clause-kind c =
    c.first_kind-first.ensures ∙ strike_kind_is c.args.self (sym c.is_tilde.ensures ∙ c.if-is_tilde.true)

pub returns-clause-kind : goal.returns-clause-kind
returns-clause-kind c =
    ap₂ (λ f n. f + (n + c.args.self.length % 3)) c.first_kind-first.ensures c.number_if.ensures
    ∙ kind_is c.args.self (sym c.is_tilde.ensures ∙ c.if-is_tilde.false)
