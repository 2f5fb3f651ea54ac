use Rattle.std.proofs.Common.{sym, ◌∙◌}
use Rattle.std.proofs.Common.{refl}
use Rattle.doc_store.proofs.SetSteps.{none_taken, set_taken, sets_same}
use Rattle.doc_store.proofs.aliases.Aliases.remove.Goals as goal

pub invariant_of-self : goal.invariant_of-self
invariant_of-self c =
    let i = c.self.inside in
    sets_same i.goals i.by_goal c.self.invariant _ _
    (c.take.ensures.rest ∙ none_taken i.goals c.args.alias.now c.in_default.ensures.goal) refl

pub invariant_of-self-2 : goal.invariant_of-self-2
invariant_of-self-2 c =
    let i = c.self.inside in
    sets_same _ _ (set_taken i.goals i.by_goal c.self.invariant c.args.alias.now c.in-Some.goal (sym c.in-Some.ensures.goal)) _ _
    c.take.ensures.rest c.remove.ensures
