use Rattle.std.proofs.Common.{ap, ◌∙◌}
use Rattle.std.specs.FinMap as map
use Rattle.doc_store.proofs.PageSteps.{room_undone}
use Rattle.doc_store.proofs.SetSteps.{set_added, sets_same}
use Rattle.doc_store.proofs.aliases.Aliases.add.Goals as goal

pub invariant_of-self-in-Err : goal.invariant_of-self-in-Err
invariant_of-self-in-Err c =
    let i = c.self.inside in
    let none = ap (λ m. map.get m c.args.alias.now) c.self.view_is ∙ c.requires in
    sets_same i.goals i.by_goal c.self.invariant _ _
    (c.take.ensures.rest
    ∙ ap (λ m. map.remove m c.args.alias.now) (c.in_ok-insert.ensures.ok
    ∙ (λ j. map.insert i.goals (c.in_ok-copy.ensures j) (c.in_ok-copy-2.ensures j)))
    ∙ room_undone i.goals c.args.alias.now c.args.goal.now none)
    c.in-Err.ensures.err

pub returns-in-Err-clause-err : goal.returns-in-Err-clause-err
returns-in-Err-clause-err c =
    let i = c.self.inside in
    let none = ap (λ m. map.get m c.args.alias.now) c.self.view_is ∙ c.requires in
    c.take.ensures.rest
    ∙ ap (λ m. map.remove m c.args.alias.now) (c.in_ok-insert.ensures.ok
    ∙ (λ j. map.insert i.goals (c.in_ok-copy.ensures j) (c.in_ok-copy-2.ensures j)))
    ∙ room_undone i.goals c.args.alias.now c.args.goal.now none
    ∙ c.self.view_is

pub invariant_of-self-in_default : goal.invariant_of-self-in_default
invariant_of-self-in_default c =
    let i = c.self.inside in
    let none = ap (λ m. map.get m c.args.alias.now) c.self.view_is ∙ c.requires in
    sets_same _ _ (set_added i.goals i.by_goal c.self.invariant c.args.alias.now c.args.goal.now none) _ _
    (c.in_ok-insert.ensures.ok ∙ (λ j. map.insert i.goals (c.in_ok-copy.ensures j) (c.in_ok-copy-2.ensures j)))
    c.in_default.ensures.ok
