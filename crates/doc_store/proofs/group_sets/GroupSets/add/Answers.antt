use Rattle.std.proofs.Common.{ap, refl, sym, ◌∙◌}
use Rattle.std.specs.Prelude.{Some, option_map}
use Rattle.std.specs.FinMap as map
use Rattle.std.proofs.lemmas.List.{get_or-set_other}
use Rattle.doc_store.proofs.CountSteps.{set_found}
use Rattle.doc_store.proofs.NumberSteps.{groups_there, next_counted, started, written}
use Rattle.doc_store.specs.declared.group_sets.GroupSet.{GroupSet}
use Rattle.doc_store.specs.GroupSets.{NumberedSets, slot_at}
use Rattle.doc_store.proofs.group_sets.GroupSets.add.Goals as goal

pub returns-in_default-clause-counts : goal.returns-in_default-clause-counts
returns-in_default-clause-counts c =
    started c.start.result c.args.self.now c.start.new.self c.args.groups.now
    (c.in_default.ensures.value ∙ set_found c.self.inside.numbers.entries c.names.result.now
    ∙ (λ i. map.get (c.self.view_is i).numbers (c.names.ensures.same i)))
    c.start.ensures.vacant c.start.ensures.numbers c.start.ensures.set c.start.ensures.others

pub returns-clause-counts : goal.returns-clause-counts
returns-clause-counts c = λ number counts.
    let n = c.in-Some.number.now in
    let set = c.in-Some-get_mut.set.now in
    let slots = c.self.inside.slots.slots in
    let more : GroupSet = record { groups = set.groups; pages = c.in-Some-checked_add.pages } in
    next_counted c.args.self.now c.args.groups.now number counts _ n
    (λ m apart. get_or-set_other slots n m (Some more) _ apart ∙ ap (λ s. slot_at s m) c.self.view_is)
    (c.in-Some.ensures.value ∙ set_found c.self.inside.numbers.entries c.names.result.now
    ∙ (λ i. map.get (c.self.view_is i).numbers (c.names.ensures.same i)))
    set (ap (λ s. slot_at s n) (sym c.self.view_is) ∙ sym c.in-Some-get_mut.ensures.value)
    (ap (λ (s : NumberedSets). s.numbers) c.self.view_is)
    (written slots n set more (sym c.in-Some-get_mut.ensures.value)
    ∙ (λ i. Some (record { groups = set.groups; pages = c.in-Some-checked_add.ensures.1 i })))

pub returns-clause-slot : goal.returns-clause-slot
returns-clause-slot c = λ number counts.
    let n = c.in-Some.number.now in
    let set = c.in-Some-get_mut.set.now in
    let slots = c.self.inside.slots.slots in
    let more : GroupSet = record { groups = set.groups; pages = c.in-Some-checked_add.pages } in
    let there = groups_there c.args.self.now c.args.groups.now number counts c.args.self.now n (λ m apart. refl)
    (c.in-Some.ensures.value ∙ set_found c.self.inside.numbers.entries c.names.result.now
    ∙ (λ i. map.get (c.self.view_is i).numbers (c.names.ensures.same i)))
    set (ap (λ s. slot_at s n) (sym c.self.view_is) ∙ sym c.in-Some-get_mut.ensures.value) in
    ap (option_map (λ (s : GroupSet). s.groups)) (written slots n set more (sym c.in-Some-get_mut.ensures.value))
    ∙ ap Some there.0
