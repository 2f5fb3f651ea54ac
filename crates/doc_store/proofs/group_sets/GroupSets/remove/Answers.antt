use Rattle.std.proofs.Common.{◌-◌, ap, sym, ◌∙◌}
use Rattle.std.specs.Prelude.{Some}
use Rattle.std.specs.FinMap as map
use Rattle.std.proofs.lemmas.List.{get_or-set_other}
use Rattle.doc_store.proofs.CountSteps.{set_found, set_gone}
use Rattle.doc_store.proofs.NumberSteps.{last_keeps, last_uncounted, named, one_uncounted, stands, written}
use Rattle.doc_store.specs.declared.group_sets.GroupSet.{GroupSet}
use Rattle.doc_store.specs.GroupSets.{NumberedSets, slot_at}
use Rattle.doc_store.proofs.group_sets.GroupSets.remove.Goals as goal

pub returns-in_default-clause-counts : goal.returns-in_default-clause-counts
returns-in_default-clause-counts c = λ number counts.
    absurd (named c.args.self.now c.args.groups.now number counts
    (c.in_default.ensures.value ∙ set_found c.self.inside.numbers.entries c.names.result.now
    ∙ (λ i. map.get (c.self.view_is i).numbers (c.names.ensures.same i))))

pub returns-in_default-get_mut-clause-counts : goal.returns-in_default-get_mut-clause-counts
returns-in_default-get_mut-clause-counts c = λ number counts.
    let n = c.in-Some.number.now in
    absurd (stands c.args.self.now c.args.groups.now number counts n
    (c.in-Some.ensures.value ∙ set_found c.self.inside.numbers.entries c.names.result.now
    ∙ (λ i. map.get (c.self.view_is i).numbers (c.names.ensures.same i)))
    (c.in_default-get_mut.ensures.value ∙ ap (λ s. slot_at s n) c.self.view_is))

pub returns-then-set-gt1-clause-counts : goal.returns-then-set-gt1-clause-counts
returns-then-set-gt1-clause-counts c = λ number counts.
    let n = c.in-Some.number.now in
    let set = c.in-Some-get_mut.set.now in
    let slots = c.self.inside.slots.slots in
    let less : GroupSet = record { groups = set.groups; pages = set.pages - 1 } in
    one_uncounted c.args.self.now c.args.groups.now number counts n
    (c.in-Some.ensures.value ∙ set_found c.self.inside.numbers.entries c.names.result.now
    ∙ (λ i. map.get (c.self.view_is i).numbers (c.names.ensures.same i)))
    _ (λ m apart. get_or-set_other slots n m (Some less) _ apart ∙ ap (λ s. slot_at s m) c.self.view_is)
    set (ap (λ s. slot_at s n) (sym c.self.view_is) ∙ sym c.in-Some-get_mut.ensures.value) c.if-set-gt1.true
    (ap (λ (s : NumberedSets). s.numbers) c.self.view_is)
    (written slots n set less (sym c.in-Some-get_mut.ensures.value))

pub returns-clause-counts : goal.returns-clause-counts
returns-clause-counts c = λ number counts.
    let n = c.in-Some.number.now in
    let set = c.in-Some-get_mut.set.now in
    let slots = c.self.inside.slots.slots in
    last_uncounted c.args.self.now c.args.groups.now number counts n
    (c.in-Some.ensures.value ∙ set_found c.self.inside.numbers.entries c.names.result.now
    ∙ (λ i. map.get (c.self.view_is i).numbers (c.names.ensures.same i)))
    _ (λ m apart. c.try_remove.ensures.updates.others m apart ∙ get_or-set_other slots n m (Some set) _ apart
    ∙ ap (λ s. slot_at s m) c.self.view_is)
    set (ap (λ s. slot_at s n) (sym c.self.view_is) ∙ sym c.in-Some-get_mut.ensures.value) c.if-set-gt1.false
    (set_gone c.self.inside.numbers c.remove.new.self c.names-2.result.now c.remove.ensures.updates
    ∙ (λ i. map.remove (c.self.view_is i).numbers (c.names-2.ensures.same i)))
    c.try_remove.ensures.updates.changed

pub returns-clause-kept : goal.returns-clause-kept
returns-clause-kept c = λ number counts.
    let n = c.in-Some.number.now in
    let set = c.in-Some-get_mut.set.now in
    let slots = c.self.inside.slots.slots in
    last_keeps c.args.self.now c.args.groups.now number counts n
    (c.in-Some.ensures.value ∙ set_found c.self.inside.numbers.entries c.names.result.now
    ∙ (λ i. map.get (c.self.view_is i).numbers (c.names.ensures.same i)))
    (record { numbers = c.args.self.now.numbers; slots = c.try_remove.new.self.slots })
    (λ m apart. c.try_remove.ensures.updates.others m apart ∙ get_or-set_other slots n m (Some set) _ apart
    ∙ ap (λ s. slot_at s m) c.self.view_is)
    set (ap (λ s. slot_at s n) (sym c.self.view_is) ∙ sym c.in-Some-get_mut.ensures.value) c.if-set-gt1.false
