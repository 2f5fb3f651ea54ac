use Rattle.std.proofs.Common.{ap, ◌∙◌}
use Rattle.std.specs.FinMap as map
use Rattle.doc_store.proofs.SetSteps.{goals_left, none_left_out, sets_left, sets_same}
use Rattle.doc_store.specs.AliasSteps.{set_at, without_all}
use Rattle.doc_store.specs.Store.{without_goal}
use Rattle.doc_store.proofs.aliases.Aliases.remove_goal.Goals as goal

pub invariant_of-self : goal.invariant_of-self
invariant_of-self c =
    let i = c.self.inside in
    sets_same _ _ (sets_left i.goals i.by_goal c.self.invariant c.args.path.now) _ _
    (none_left_out i.goals i.by_goal c.self.invariant c.args.path.now c.in_default.ensures.aliases) c.take.ensures.rest

pub returns-in_default : goal.returns-in_default
returns-in_default c =
    let i = c.self.inside in
    none_left_out i.goals i.by_goal c.self.invariant c.args.path.now c.in_default.ensures.aliases
    ∙ ap (λ m. without_goal m c.args.path.now) c.self.view_is

pub invariant_of-self-2 : goal.invariant_of-self-2
invariant_of-self-2 c =
    let i = c.self.inside in
    sets_same _ _ (sets_left i.goals i.by_goal c.self.invariant c.args.path.now) _ _
    (c.remove_all.ensures ∙ ap (λ o. without_all i.goals (map.keys (set_at o))) c.in-Some.ensures.aliases
    ∙ goals_left i.goals i.by_goal c.self.invariant c.args.path.now)
    c.take.ensures.rest

pub returns : goal.returns
returns c =
    let i = c.self.inside in
    c.remove_all.ensures ∙ ap (λ o. without_all i.goals (map.keys (set_at o))) c.in-Some.ensures.aliases
    ∙ goals_left i.goals i.by_goal c.self.invariant c.args.path.now
    ∙ ap (λ m. without_goal m c.args.path.now) c.self.view_is
