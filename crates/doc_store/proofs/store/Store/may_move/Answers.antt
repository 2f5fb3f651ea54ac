use Rattle.std.proofs.Common.{◌∙◌}
use Rattle.doc_store.proofs.AliasSteps.{len-aliases_after}
use Rattle.doc_store.proofs.StateSteps.{alias_of_none, may_move_is}
use Rattle.doc_store.proofs.store.Store.may_move.Goals as goal

pub returns-clause-answer : goal.returns-clause-answer
returns-clause-answer c =
    let i = c.self.inside in
    may_move_is i.pages i.aliases i.puts c.args.self.now c.args.from.now c.args.to.now c.contains.result c.contains-2.result
    c.len_after_move.result c.move_fits.result
    c.self.view_is c.contains.ensures c.contains-2.ensures
    (λ stands. c.len_after_move.ensures ∙ len-aliases_after i.aliases c.args.from.now c.args.to.now
    (alias_of_none i.pages i.aliases i.puts c.args.from.now stands c.self.invariant))
    c.move_fits.ensures.answer
