use Rattle.std.proofs.Common.{◌≡◌, ℕ, List, is_some, refl, ap, ◌∙◌}
use Rattle.std.specs.Prelude.{Some}
use Rattle.std.specs.BTreeMap.{BTreeMap}
use Rattle.std.specs.Cmp.Lexicographic.{slice_cmp}
use Rattle.std.specs.FinMap as map
use Rattle.std.specs.Ordering.{nat_cmp}
use Rattle.std.proofs.lemmas.Cmp.{nat_list_cmp_total}
use Rattle.std.proofs.lemmas.Map.Lookups.{exact_bytes}
use Rattle.doc_page_parts.proofs.Maps.{inserted, looked_up}
use Rattle.doc_store.proofs.SetSteps.{value_set, value_not_set}
use Rattle.doc_store.specs.AliasSteps.{TextSet, set_at}
use Rattle.doc_store.proofs.by_goal.ByGoal.remove.Goals as goal

pub returns-in_default : goal.returns-in_default
returns-in_default c =
    ap (λ (t : BTreeMap (List ℕ) TextSet). map.from_entries {R = slice_cmp nat_cmp} t.entries) c.get_mut.follows.holds-at-none
    ∙ c.self.view_is
    ∙ value_not_set c.args.self.now c.args.goal.now (map.remove (set_at (map.get c.args.self.now c.args.goal.now)) c.args.alias.now) (
    ap is_some (c.in_default.ensures.value ∙ looked_up nat_list_cmp_total exact_bytes c.self.inside.entries.entries c.args.goal.now)
    ∙ ap (λ m. is_some (map.get m c.args.goal.now)) c.self.view_is
    )

pub returns : goal.returns
returns c =
    let found = c.in-Some.ensures.value in
    let updates = (c.get_mut.follows.holds c.remove.new.self).3 in
    let stands : Some c.in-Some.aliases.now ≡ map.get c.args.self.now c.args.goal.now =
    found ∙ looked_up nat_list_cmp_total exact_bytes c.self.inside.entries.entries c.args.goal.now
    ∙ ap (λ m. map.get m c.args.goal.now) c.self.view_is in
    inserted nat_list_cmp_total exact_bytes c.self.inside.entries.entries (c.get_mut.follows.lender c.remove.new.self).entries
    c.args.goal.now
    c.remove.new.self (updates (rw (← found) refl)).0
    ∙ ap (λ m. map.insert m c.args.goal.now c.remove.new.self) c.self.view_is
    ∙ ap (map.insert c.args.self.now c.args.goal.now) (c.remove.ensures ∙ ap (λ s. map.remove s c.args.alias.now) (ap set_at stands))
    ∙ value_set c.args.self.now c.args.goal.now (map.remove (set_at (map.get c.args.self.now c.args.goal.now)) c.args.alias.now)
    (ap is_some stands)
