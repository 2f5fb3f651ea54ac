use Rattle.std.proofs.Common.{sym, ◌∙◌}
use Rattle.doc_store.proofs.StateSteps.{nothing_removed, removed_gives, stands_in, store_removed}
use Rattle.doc_store.proofs.store.Store.remove.Goals as goal

pub returns-then-not-contains-clause-answer : goal.returns-then-not-contains-clause-answer
returns-then-not-contains-clause-answer c =
    sym c.if-not-contains.true ∙ c.contains.ensures
    ∙ stands_in c.self.inside.pages c.self.inside.aliases c.self.inside.puts c.args.self.now c.args.path.now c.self.view_is

pub returns-then-not-contains-clause-state : goal.returns-then-not-contains-clause-state
returns-then-not-contains-clause-state c =
    sym c.self.view_is
    ∙ nothing_removed c.self.inside.pages c.self.inside.aliases c.self.inside.puts c.args.self.now c.args.path.now c.self.view_is
    (sym c.contains.ensures ∙ c.if-not-contains.true)

pub invariant_of-self : goal.invariant_of-self
invariant_of-self c =
    store_removed c.self.inside.pages c.take.new.self c.self.inside.aliases c.remove_goal.new.self c.self.inside.puts c.args.self.now
    c.args.path.now
    c.self.view_is c.take.ensures.rest c.remove_goal.ensures c.self.invariant

pub returns-clause-answer : goal.returns-clause-answer
returns-clause-answer c =
    sym c.if-not-contains.false ∙ c.contains.ensures
    ∙ stands_in c.self.inside.pages c.self.inside.aliases c.self.inside.puts c.args.self.now c.args.path.now c.self.view_is

pub returns-clause-state : goal.returns-clause-state
returns-clause-state c =
    removed_gives c.self.inside.pages c.take.new.self c.self.inside.aliases c.remove_goal.new.self c.self.inside.puts c.args.self.now
    c.args.path.now
    c.self.view_is c.take.ensures.rest c.remove_goal.ensures (sym c.contains.ensures ∙ c.if-not-contains.false)
