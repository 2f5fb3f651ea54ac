use Rattle.std.proofs.Common.{◌≡◌, ℕ, List, refl, ap, ◌∙◌}
use Rattle.std.specs.Prelude.{Some, None}
use Rattle.std.specs.BTreeMap.{BTreeMap}
use Rattle.std.specs.Cmp.Lexicographic.{slice_cmp}
use Rattle.std.specs.FinMap as map
use Rattle.std.specs.Ordering.{nat_cmp}
use Rattle.std.proofs.lemmas.Cmp.{nat_list_cmp_total}
use Rattle.std.proofs.lemmas.Map.Lookups.{exact_bytes}
use Rattle.doc_page_parts.proofs.Maps.{inserted, looked_up}
use Rattle.std.proofs.lemmas.Result.{on_err_weaker, on_ok_weaker}
use Rattle.doc_store.proofs.SetSteps.{set_again}
use Rattle.doc_store.specs.AliasSteps.{TextSet, set_at}
use Rattle.doc_store.proofs.by_goal.ByGoal.add.Goals as goal

pub returns-in-Some-clause-ok : goal.returns-in-Some-clause-ok
returns-in-Some-clause-ok c =
    let found = c.in-Some.ensures.value in
    let updates = (c.get_mut.follows.holds c.add.new.self).3 in
    let stands : Some c.in-Some.aliases.now ≡ map.get c.args.self.now c.args.goal.now =
    found ∙ looked_up nat_list_cmp_total exact_bytes c.self.inside.entries.entries c.args.goal.now
    ∙ ap (λ m. map.get m c.args.goal.now) c.self.view_is in
    on_ok_weaker c.add.result (λ e.
    inserted nat_list_cmp_total exact_bytes c.self.inside.entries.entries (c.get_mut.follows.lender c.add.new.self).entries c.args.goal.now
    c.add.new.self (updates (rw (← found) refl)).0
    ∙ ap (λ m. map.insert m c.args.goal.now c.add.new.self) c.self.view_is
    ∙ ap (map.insert c.args.self.now c.args.goal.now) (e ∙ ap (λ s. map.insert s c.args.alias.now tt) (ap set_at stands))) c.add.ensures.ok

pub returns-in-Some-clause-err : goal.returns-in-Some-clause-err
returns-in-Some-clause-err c =
    let found = c.in-Some.ensures.value in
    let updates = (c.get_mut.follows.holds c.add.new.self).3 in
    let stands : Some c.in-Some.aliases.now ≡ map.get c.args.self.now c.args.goal.now =
    found ∙ looked_up nat_list_cmp_total exact_bytes c.self.inside.entries.entries c.args.goal.now
    ∙ ap (λ m. map.get m c.args.goal.now) c.self.view_is in
    on_err_weaker c.add.result (λ e.
    inserted nat_list_cmp_total exact_bytes c.self.inside.entries.entries (c.get_mut.follows.lender c.add.new.self).entries c.args.goal.now
    c.add.new.self (updates (rw (← found) refl)).0
    ∙ ap (λ m. map.insert m c.args.goal.now c.add.new.self) c.self.view_is
    ∙ ap (map.insert c.args.self.now c.args.goal.now) e
    ∙ set_again c.args.self.now c.args.goal.now c.in-Some.aliases.now stands) c.add.ensures.err

pub returns-clause-ok : goal.returns-clause-ok
returns-clause-ok c =
    let same = ap (λ (t : BTreeMap (List ℕ) TextSet). map.from_entries {R = slice_cmp nat_cmp} t.entries) c.get_mut.follows.holds-at-none
    ∙ c.self.view_is in
    let none : None ≡ map.get c.args.self.now c.args.goal.now =
    c.in_default.ensures.value ∙ looked_up nat_list_cmp_total exact_bytes c.self.inside.entries.entries c.args.goal.now
    ∙ ap (λ m. map.get m c.args.goal.now) c.self.view_is in
    let one = c.in_ok-add.ensures.ok ∙ ap (λ s. map.insert s c.args.alias.now tt) (c.new-aliases.ensures ∙ ap set_at none) in
    on_ok_weaker c.insert.result (λ e. e ∙ (λ i. map.insert (same i) (c.in_ok-copy.ensures i) (one i))) c.insert.ensures.ok
