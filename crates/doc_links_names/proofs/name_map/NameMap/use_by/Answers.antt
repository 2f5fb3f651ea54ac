use Rattle.std.proofs.Common.{◌∙◌, ap, refl, sym}
use Rattle.std.specs.FinMap as map
use Rattle.doc_index_tables.specs.Maps.{text_map}
use Rattle.doc_index_tables.proofs.TableSteps.{inserted_text, looked_up_text, set_again}
use Rattle.doc_links_names.specs.NameSteps.{used_in}
use Rattle.doc_links_names.specs.declared.name.Name.{Name}
use Rattle.doc_links_names.proofs.NameSteps.{number_in, on_err}
use Rattle.doc_links_names.proofs.name_map.NameMap.use_by.Goals as goal

pub returns-in_default-clause-number : goal.returns-in_default-clause-number
returns-in_default-clause-number c =
    ap number_in (c.in_default.ensures.value ∙ looked_up_text c.self.inside.names.entries c.args.text.now
    ∙ ap (λ m. map.get m c.args.text.now) c.self.view_is)

pub returns-in_default-clause-used : goal.returns-in_default-clause-used
returns-in_default-clause-used c =
    ap text_map c.get_mut.follows.holds-at-none ∙ c.self.view_is
    ∙ ap (λ x. used_in x c.args.self.now c.args.text.now c.args.slot)
    (c.in_default.ensures.value ∙ looked_up_text c.self.inside.names.entries c.args.text.now
    ∙ ap (λ m. map.get m c.args.text.now) c.self.view_is)

pub returns-in_err-set-clause-err : goal.returns-in_err-set-clause-err
returns-in_err-set-clause-err c =
    let found = c.in-Some.ensures.value in
    let stands = found ∙ looked_up_text c.self.inside.names.entries c.args.text.now ∙ ap (λ m. map.get m c.args.text.now) c.self.view_is in
    let next : Name = record { number = c.in-Some.name.now.number; slots = c.set.new.self } in
    let updates = (c.get_mut.follows.holds next).3 in
    on_err c.from_residual.result
    (inserted_text c.self.inside.names (c.get_mut.follows.lender next) c.args.text.now next (updates (rw (← found) refl))
    ∙ ap (λ m. map.insert m c.args.text.now next) c.self.view_is
    ∙ ap (λ slots. map.insert c.args.self.now c.args.text.now (record { number = c.in-Some.name.now.number; slots = slots }))
    c.in_err-set.ensures.err
    ∙ set_again c.args.self.now c.args.text.now c.in-Some.name.now (sym stands))

pub returns-clause-number : goal.returns-clause-number
returns-clause-number c =
    ap number_in (c.in-Some.ensures.value ∙ looked_up_text c.self.inside.names.entries c.args.text.now
    ∙ ap (λ m. map.get m c.args.text.now) c.self.view_is)

pub returns-clause-used : goal.returns-clause-used
returns-clause-used c =
    let found = c.in-Some.ensures.value in
    let stands = found ∙ looked_up_text c.self.inside.names.entries c.args.text.now ∙ ap (λ m. map.get m c.args.text.now) c.self.view_is in
    let next : Name = record { number = c.in-Some.name.now.number; slots = c.set.new.self } in
    let updates = (c.get_mut.follows.holds next).3 in
    inserted_text c.self.inside.names (c.get_mut.follows.lender next) c.args.text.now next (updates (rw (← found) refl))
    ∙ ap (λ m. map.insert m c.args.text.now next) c.self.view_is
    ∙ ap (λ slots. map.insert c.args.self.now c.args.text.now (record { number = c.in-Some.name.now.number; slots = slots })) c.in_ok-set.ensures.ok
    ∙ ap (λ x. used_in x c.args.self.now c.args.text.now c.args.slot) stands
