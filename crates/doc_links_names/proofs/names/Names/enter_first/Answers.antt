use Rattle.std.proofs.Common.{◌∙◌, ap, subst, sym}
use Rattle.std.specs.Prelude.{bytes_eq, Some}
use Rattle.std.specs.FinMap as map
use Rattle.slab.specs.Slab.{Slab, Updates}
use Rattle.doc_links_names.specs.Names.{AddsOnly, Keeps, number_of, uses}
use Rattle.doc_links_names.specs.NameSteps.{IsNumbering}
use Rattle.doc_links_names.specs.declared.name.Name.{Name}
use Rattle.doc_links_names.proofs.NameSteps.{slot_joins}
use Rattle.doc_links_names.proofs.Numberings.{fresh_numbering, same_keys}
use Rattle.doc_links_names.proofs.Uses.{fresh_adds, fresh_keeps, fresh_number, fresh_used}
use Rattle.doc_links_names.proofs.names.Names.enter_first.Goals as goal

pub invariant_of-self-2 : goal.invariant_of-self-2
invariant_of-self-2 c =
    let name : Name = record { number = c.vacant_key-number.result; slots = c.set.new.self } in
    let made = c.in_ok-insert.ensures.ok ∙ ap (λ t. map.insert c.self.inside.names t name) c.in_ok-from_str.ensures.ok in
    let kept = ap (λ (s : Slab (Unit {0})). s.slots) c.reserve.ensures.rest_kept in
    subst (λ m. IsNumbering m c.insert_reserved.new.self) (sym made)
    (fresh_numbering c.self.inside.names c.reserve.new.self
    (same_keys c.self.inside.names c.self.inside.taken c.reserve.new.self kept c.self.invariant)
    c.args.text.now name c.insert_reserved.new.self c.vacant_key-number.ensures.vacant
    (subst (λ k. Updates c.reserve.new.self c.insert_reserved.new.self k (Some tt))
    (c.insert_reserved.ensures.key ∙ sym c.vacant_key-number.ensures.value) c.insert_reserved.ensures.updates))

pub returns-clause-number : goal.returns-clause-number
returns-clause-number c =
    let name : Name = record { number = c.vacant_key-number.result; slots = c.set.new.self } in
    let made = c.in_ok-insert.ensures.ok ∙ ap (λ t. map.insert c.self.inside.names t name) c.in_ok-from_str.ensures.ok in
    ap (λ m. number_of m c.args.text.now) made ∙ fresh_number c.self.inside.names c.args.text.now name

pub returns-clause-used : goal.returns-clause-used
returns-clause-used c =
    let name : Name = record { number = c.vacant_key-number.result; slots = c.set.new.self } in
    let made = c.in_ok-insert.ensures.ok ∙ ap (λ t. map.insert c.self.inside.names t name) c.in_ok-from_str.ensures.ok in
    ap (λ m. uses m c.args.text.now c.args.slot) made
    ∙ fresh_used c.self.inside.names c.args.text.now name c.args.slot
    (ap (λ m. map.contains_key m c.args.slot) c.in_ok-set.ensures.ok ∙ slot_joins c.new-slots.result c.args.slot)

pub returns-clause-kept : goal.returns-clause-kept
returns-clause-kept c =
    let name : Name = record { number = c.vacant_key-number.result; slots = c.set.new.self } in
    let made = c.in_ok-insert.ensures.ok ∙ ap (λ t. map.insert c.self.inside.names t name) c.in_ok-from_str.ensures.ok in
    subst (λ m. Keeps m c.insert.new.self) c.self.view_is
    (subst (λ m. Keeps c.self.inside.names m) (sym made)
    (fresh_keeps c.self.inside.names c.args.text.now name (ap (λ m. number_of m c.args.text.now) c.self.view_is ∙ c.requires)))

pub returns-clause-only : goal.returns-clause-only
returns-clause-only c =
    let name : Name = record { number = c.vacant_key-number.result; slots = c.set.new.self } in
    let made = c.in_ok-insert.ensures.ok ∙ ap (λ t. map.insert c.self.inside.names t name) c.in_ok-from_str.ensures.ok in
    subst (λ m. AddsOnly (bytes_eq c.args.text.now) c.args.slot m c.insert.new.self) c.self.view_is
    (subst (λ m. AddsOnly (bytes_eq c.args.text.now) c.args.slot c.self.inside.names m) (sym made)
    (fresh_adds c.self.inside.names c.args.text.now c.vacant_key-number.result c.args.slot c.set.new.self
    (c.in_ok-set.ensures.ok ∙ ap (λ m. map.insert m c.args.slot 0) c.new-slots.ensures)))
