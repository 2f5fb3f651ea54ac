use Rattle.std.proofs.Common.{◌∙◌}
use Rattle.doc_index_tables.proofs.SingleSteps.{another, its_number, none_there}
use Rattle.doc_index_tables.proofs.single.Single.get.Goals as goal

pub returns-in_err-known : goal.returns-in_err-known
returns-in_err-known c =
    c.from_residual.ensures ∙ none_there c.self.inside.entry c.args.self.now c.self.view_is c.args.number c.in_err-known.was

pub returns-then-known-number : goal.returns-then-known-number
returns-then-known-number c =
    another c.self.inside.entry c.args.self.now c.self.view_is c.in_ok-known.known c.in_ok-known.value c.args.number c.in_ok-known.was
    c.if-known-number.true

pub returns : goal.returns
returns c =
    its_number c.self.inside.entry c.args.self.now c.self.view_is c.in_ok-known.known c.in_ok-known.value c.args.number
    c.in_ok-known.was c.if-known-number.false
