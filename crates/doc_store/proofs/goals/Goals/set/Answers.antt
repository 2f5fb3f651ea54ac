use Rattle.std.proofs.Common.{ℕ, List, is_some, refl, ap, ◌∙◌}
use Rattle.std.specs.BTreeMap.{BTreeMap}
use Rattle.std.specs.Cmp.Lexicographic.{slice_cmp}
use Rattle.std.specs.FinMap as map
use Rattle.std.specs.Ordering.{nat_cmp}
use Rattle.std.proofs.lemmas.Cmp.{nat_list_cmp_total}
use Rattle.std.proofs.lemmas.Map.Lookups.{exact_bytes}
use Rattle.doc_page_parts.proofs.Maps.{inserted, looked_up}
use Rattle.doc_store.proofs.SetSteps.{value_set, value_not_set}
use Rattle.doc_store.proofs.goals.Goals.set.Goals as goal

pub returns-in_default : goal.returns-in_default
returns-in_default c =
    ap (λ (t : BTreeMap (List ℕ) (List ℕ)). map.from_entries {R = slice_cmp nat_cmp} t.entries) c.get_mut.follows.holds-at-none
    ∙ c.self.view_is
    ∙ value_not_set c.args.self.now c.args.alias.now c.args.goal (
    ap is_some (c.in_default.ensures.value ∙ looked_up nat_list_cmp_total exact_bytes c.self.inside.entries.entries c.args.alias.now)
    ∙ ap (λ m. is_some (map.get m c.args.alias.now)) c.self.view_is
    )

pub returns : goal.returns
returns c =
    let found = c.in-Some.ensures.value in
    let updates = (c.get_mut.follows.holds c.args.goal).3 in
    inserted nat_list_cmp_total exact_bytes c.self.inside.entries.entries (c.get_mut.follows.lender c.args.goal).entries c.args.alias.now
    c.args.goal (updates (rw (← found) refl)).0
    ∙ ap (λ m. map.insert m c.args.alias.now c.args.goal) c.self.view_is
    ∙ value_set c.args.self.now c.args.alias.now c.args.goal (
    ap is_some (found ∙ looked_up nat_list_cmp_total exact_bytes c.self.inside.entries.entries c.args.alias.now)
    ∙ ap (λ m. is_some (map.get m c.args.alias.now)) c.self.view_is
    )
