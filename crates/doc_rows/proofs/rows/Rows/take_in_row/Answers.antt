use Rattle.std.proofs.Common.{◌≡◌, ◌∙◌, ap, sym, refl}
use Rattle.std.specs.Prelude.{Some}
use Rattle.std.specs.FinMap as map
use Rattle.doc_index_tables.proofs.TableSteps.{inserted_text, looked_up_text, set_and_removed}
use Rattle.doc_rows.proofs.RowsSteps.{left_is, nothing_left}
use Rattle.doc_rows.proofs.rows.Rows.take_in_row.Goals as goal

pub returns-in_default-clause-left : goal.returns-in_default-clause-left
returns-in_default-clause-left c =
    nothing_left c.args.self.now c.args.row.now c.args.path.now (sym (c.in_default.ensures.value
    ∙ looked_up_text c.self.inside.rows.entries c.args.row.now ∙ ap (λ m. map.get m c.args.row.now) c.self.view_is))

pub returns-clause-left : goal.returns-clause-left
returns-clause-left c =
    let stands : map.get c.args.self.now c.args.row.now ≡ Some c.in-Some.paths.now =
    sym (c.in-Some.ensures.value ∙ looked_up_text c.self.inside.rows.entries c.args.row.now
    ∙ ap (λ m. map.get m c.args.row.now) c.self.view_is) in
    c.len.ensures ∙ ap map.len (c.remove.ensures ∙ left_is c.args.self.now c.args.row.now c.in-Some.paths.now stands c.args.path.now)

pub returns-clause-rest : goal.returns-clause-rest
returns-clause-rest c =
    let updates = (c.get_mut.follows.holds c.remove.new.self).3 in
    ap (λ m. map.remove m c.args.row.now) (inserted_text c.self.inside.rows (c.get_mut.follows.lender c.remove.new.self) c.args.row.now
    c.remove.new.self (updates (rw (← c.in-Some.ensures.value) refl))
    ∙ ap (λ m. map.insert m c.args.row.now c.remove.new.self) c.self.view_is)
    ∙ set_and_removed c.args.self.now c.args.row.now c.remove.new.self

pub returns-clause-row : goal.returns-clause-row
returns-clause-row c =
    let stands : map.get c.args.self.now c.args.row.now ≡ Some c.in-Some.paths.now =
    sym (c.in-Some.ensures.value ∙ looked_up_text c.self.inside.rows.entries c.args.row.now
    ∙ ap (λ m. map.get m c.args.row.now) c.self.view_is) in
    let updates = (c.get_mut.follows.holds c.remove.new.self).3 in
    λ _. inserted_text c.self.inside.rows (c.get_mut.follows.lender c.remove.new.self) c.args.row.now
    c.remove.new.self (updates (rw (← c.in-Some.ensures.value) refl))
    ∙ ap (λ m. map.insert m c.args.row.now c.remove.new.self) c.self.view_is
    ∙ ap (map.insert c.args.self.now c.args.row.now) (c.remove.ensures
    ∙ left_is c.args.self.now c.args.row.now c.in-Some.paths.now stands c.args.path.now)
