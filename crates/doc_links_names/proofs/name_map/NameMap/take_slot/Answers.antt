use Rattle.std.proofs.Common.{◌∙◌, ap, arith, refl, sym}
use Rattle.std.specs.FinMap as map
use Rattle.doc_index_tables.specs.Maps.{text_map}
use Rattle.doc_index_tables.proofs.TableSteps.{inserted_text, looked_up_text, set_and_removed}
use Rattle.doc_links_names.specs.Names.{left_in}
use Rattle.doc_links_names.specs.NameSteps.{freed_in}
use Rattle.doc_links_names.specs.declared.name.Name.{Name}
use Rattle.doc_links_names.proofs.Uses.{freed_last, left_is, not_freed}
use Rattle.doc_links_names.proofs.name_map.NameMap.take_slot.Goals as goal

pub returns-in_default-clause-freed : goal.returns-in_default-clause-freed
returns-in_default-clause-freed c =
    ap (λ x. freed_in x c.args.slot) (c.in_default.ensures.value ∙ looked_up_text c.self.inside.names.entries c.args.text.now
    ∙ ap (λ m. map.get m c.args.text.now) c.self.view_is)

pub returns-in_default-clause-kept : goal.returns-in_default-clause-kept
returns-in_default-clause-kept c =
    ap text_map c.get_mut.follows.holds-at-none ∙ c.self.view_is
    ∙ ap (λ x. left_in x c.args.self.now c.args.text.now c.args.slot)
    (c.in_default.ensures.value ∙ looked_up_text c.self.inside.names.entries c.args.text.now
    ∙ ap (λ m. map.get m c.args.text.now) c.self.view_is)

pub returns-then-len-gt0-clause-freed : goal.returns-then-len-gt0-clause-freed
returns-then-len-gt0-clause-freed c =
    let found = c.in-Some.ensures.value in
    let stands = sym (found ∙ looked_up_text c.self.inside.names.entries c.args.text.now
    ∙ ap (λ m. map.get m c.args.text.now) c.self.view_is) in
    not_freed c.args.self.now c.args.text.now c.args.slot c.in-Some.name.now stands c.take.new.self c.take.ensures
    c.len.result c.len.ensures (omega (arith, c.if-len-gt0.true))

pub returns-then-len-gt0-clause-rest : goal.returns-then-len-gt0-clause-rest
returns-then-len-gt0-clause-rest c =
    let found = c.in-Some.ensures.value in
    let next : Name = record { number = c.in-Some.name.now.number; slots = c.take.new.self } in
    let updates = (c.get_mut.follows.holds next).3 in
    ap (λ m. map.remove m c.args.text.now)
    (inserted_text c.self.inside.names (c.get_mut.follows.lender next) c.args.text.now next (updates (rw (← found) refl))
    ∙ ap (λ m. map.insert m c.args.text.now next) c.self.view_is)
    ∙ set_and_removed c.args.self.now c.args.text.now next

pub returns-then-len-gt0-clause-kept : goal.returns-then-len-gt0-clause-kept
returns-then-len-gt0-clause-kept c =
    let found = c.in-Some.ensures.value in
    let stands = sym (found ∙ looked_up_text c.self.inside.names.entries c.args.text.now
    ∙ ap (λ m. map.get m c.args.text.now) c.self.view_is) in
    let next : Name = record { number = c.in-Some.name.now.number; slots = c.take.new.self } in
    let updates = (c.get_mut.follows.holds next).3 in
    inserted_text c.self.inside.names (c.get_mut.follows.lender next) c.args.text.now next (updates (rw (← found) refl))
    ∙ ap (λ m. map.insert m c.args.text.now next) c.self.view_is
    ∙ left_is c.args.self.now c.args.text.now c.args.slot c.in-Some.name.now stands c.take.new.self c.take.ensures
    c.len.result c.len.ensures (omega (arith, c.if-len-gt0.true))

pub returns-clause-freed : goal.returns-clause-freed
returns-clause-freed c =
    let found = c.in-Some.ensures.value in
    let stands = sym (found ∙ looked_up_text c.self.inside.names.entries c.args.text.now
    ∙ ap (λ m. map.get m c.args.text.now) c.self.view_is) in
    freed_last c.args.self.now c.args.text.now c.args.slot c.in-Some.name.now stands c.take.new.self c.take.ensures
    c.len.result c.len.ensures (omega (arith, c.if-len-gt0.false))

pub returns-clause-rest : goal.returns-clause-rest
returns-clause-rest c =
    let found = c.in-Some.ensures.value in
    let next : Name = record { number = c.in-Some.name.now.number; slots = c.take.new.self } in
    let updates = (c.get_mut.follows.holds next).3 in
    ap (λ m. map.remove m c.args.text.now)
    (inserted_text c.self.inside.names (c.get_mut.follows.lender next) c.args.text.now next (updates (rw (← found) refl))
    ∙ ap (λ m. map.insert m c.args.text.now next) c.self.view_is)
    ∙ set_and_removed c.args.self.now c.args.text.now next
