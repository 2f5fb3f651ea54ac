use Rattle.std.proofs.Common.{◌≡◌, ℕ, List, map as mapped, ap, sym, ◌∙◌}
use Rattle.std.specs.Prelude.{Some}
use Rattle.std.specs.FinMap as map
use Rattle.doc_store.proofs.SetSteps.{goals_led, goals_stay, none_led, sets_led, sets_same, taken_is}
use Rattle.doc_store.specs.AliasSteps.{set_at, with_all, with_value}
use Rattle.doc_store_readers.specs.Maps.{map_values}
use Rattle.doc_store.specs.Store.{goal_after}
use Rattle.doc_store.proofs.aliases.Aliases.redirect.Goals as goal

pub invariant_of-self-in_default : goal.invariant_of-self-in_default
invariant_of-self-in_default c =
    let i = c.self.inside in
    let from = c.args.from.now in
    let to = c.args.to.now in
    let free = λ (alias : List ℕ) (e : map.get i.goals alias ≡ Some to). c.requires.free alias
    (ap (λ m. map.get m alias) (sym c.self.view_is) ∙ e) in
    let room = c.in_ok-insert.ensures.ok ∙ (λ j. map.insert i.by_goal (c.in_ok-copy.ensures j) (c.new.ensures j)) in
    let none = c.in_default.ensures.aliases ∙ ap (λ m. map.get m from) room in
    sets_same _ _ (none_led i.goals i.by_goal c.self.invariant from to c.requires.apart free none) _ _
    (goals_stay i.goals i.by_goal c.self.invariant from to c.requires.apart free none)
    (c.take.ensures.rest ∙ ap (λ m. map.remove m from) room)

pub returns-in_default-clause-ok : goal.returns-in_default-clause-ok
returns-in_default-clause-ok c =
    let i = c.self.inside in
    let from = c.args.from.now in
    let to = c.args.to.now in
    let free = λ (alias : List ℕ) (e : map.get i.goals alias ≡ Some to). c.requires.free alias
    (ap (λ m. map.get m alias) (sym c.self.view_is) ∙ e) in
    let room = c.in_ok-insert.ensures.ok ∙ (λ j. map.insert i.by_goal (c.in_ok-copy.ensures j) (c.new.ensures j)) in
    let none = c.in_default.ensures.aliases ∙ ap (λ m. map.get m from) room in
    goals_stay i.goals i.by_goal c.self.invariant from to c.requires.apart free none ∙ ap (map_values (goal_after from to)) c.self.view_is

pub invariant_of-self-2 : goal.invariant_of-self-2
invariant_of-self-2 c =
    let i = c.self.inside in
    let from = c.args.from.now in
    let to = c.args.to.now in
    let free = λ (alias : List ℕ) (e : map.get i.goals alias ≡ Some to). c.requires.free alias
    (ap (λ m. map.get m alias) (sym c.self.view_is) ∙ e) in
    let room = c.in_ok-insert.ensures.ok ∙ (λ j. map.insert i.by_goal (c.in_ok-copy.ensures j) (c.new.ensures j)) in
    let there = c.in-Some.ensures.aliases ∙ ap (λ m. map.get m from) room in
    let stood = there ∙ taken_is i.goals i.by_goal c.self.invariant from to c.requires.apart free in
    let led = c.set_all.ensures to (c.in_ok-copies.ensures ∙ ap (λ o. mapped (λ _. to) (map.keys (set_at o))) (sym stood))
    ∙ ap (λ o. with_all i.goals (map.keys (set_at o)) to) stood
    ∙ goals_led i.goals i.by_goal c.self.invariant from to c.requires.apart free in
    sets_same _ _ (sets_led i.goals i.by_goal c.self.invariant from to c.requires.apart free c.in-Some.aliases there) _ _
    led
    (c.replace.ensures ∙ ap (λ m. with_value m to c.in-Some.aliases) (c.take.ensures.rest ∙ ap (λ m. map.remove m from) room))

pub returns-clause-ok : goal.returns-clause-ok
returns-clause-ok c =
    let i = c.self.inside in
    let from = c.args.from.now in
    let to = c.args.to.now in
    let free = λ (alias : List ℕ) (e : map.get i.goals alias ≡ Some to). c.requires.free alias
    (ap (λ m. map.get m alias) (sym c.self.view_is) ∙ e) in
    let room = c.in_ok-insert.ensures.ok ∙ (λ j. map.insert i.by_goal (c.in_ok-copy.ensures j) (c.new.ensures j)) in
    let there = c.in-Some.ensures.aliases ∙ ap (λ m. map.get m from) room in
    let stood = there ∙ taken_is i.goals i.by_goal c.self.invariant from to c.requires.apart free in
    let led = c.set_all.ensures to (c.in_ok-copies.ensures ∙ ap (λ o. mapped (λ _. to) (map.keys (set_at o))) (sym stood))
    ∙ ap (λ o. with_all i.goals (map.keys (set_at o)) to) stood
    ∙ goals_led i.goals i.by_goal c.self.invariant from to c.requires.apart free in
    led ∙ ap (map_values (goal_after from to)) c.self.view_is
