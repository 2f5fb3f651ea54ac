use Rattle.std.proofs.Common.{◌≡◌, ◌∙◌, ap, sym, refl, subst}
use Rattle.std.proofs.lemmas.Bool.{true≢false}
use Rattle.doc_index_tables.specs.Maps.{text_map}
use Rattle.doc_rows_links.specs.LinkSteps.{AllHaveLess, only_at}
use Rattle.std.specs.Prelude.{Some, option_copied}
use Rattle.std.specs.FinMap as map
use Rattle.doc_index_tables.proofs.TableSteps.{inserted_text, looked_up_text}
use Rattle.doc_rows.specs.Rows.{rows_beside, rows_of_some}
use Rattle.doc_rows_links.proofs.PlaceSteps.{none_kept, set_found_less, unset_less}
use Rattle.doc_rows_links.proofs.link_rows.LinkRows.leave_in.Goals as goal

pub returns-in_default-clause-less : goal.returns-in_default-clause-less
returns-in_default-clause-less c =
    subst (λ m. AllHaveLess c.args.self.now c.args.path.now (only_at c.args.target.now
    (rows_beside (rows_of_some (option_copied c.args.groups)) (rows_of_some (option_copied c.args.others)))) m)
    (sym (ap text_map c.get_mut.follows.holds-at-none ∙ c.self.view_is))
    (unset_less c.args.self.now c.args.target.now c.args.path.now
    (rows_beside (rows_of_some (option_copied c.args.groups)) (rows_of_some (option_copied c.args.others)))
    (sym (c.in_default.ensures.value ∙ looked_up_text c.self.inside.rows.entries c.args.target.now
    ∙ ap (λ m. map.get m c.args.target.now) c.self.view_is)))

pub returns-in_default-clause-none : goal.returns-in_default-clause-none
returns-in_default-clause-none c = λ e. absurd (true≢false (sym e))

pub returns-clause-less : goal.returns-clause-less
returns-clause-less c =
    let found = c.in-Some.ensures.value in
    let stands : map.get c.args.self.now c.args.target.now ≡ Some c.in-Some.rows.now =
    sym (found ∙ looked_up_text c.self.inside.rows.entries c.args.target.now ∙ ap (λ m. map.get m c.args.target.now) c.self.view_is) in
    let updates = (c.get_mut.follows.holds c.leave_beside.new.self).3 in
    set_found_less c.args.self.now c.args.target.now c.args.path.now
    (rows_beside (rows_of_some (option_copied c.args.groups)) (rows_of_some (option_copied c.args.others))) c.in-Some.rows.now
    c.leave_beside.new.self _ stands
    (inserted_text c.self.inside.rows (c.get_mut.follows.lender c.leave_beside.new.self) c.args.target.now c.leave_beside.new.self
    (updates (rw (← found) refl)) ∙ ap (λ m. map.insert m c.args.target.now c.leave_beside.new.self) c.self.view_is) c.leave_beside.ensures

pub returns-clause-none : goal.returns-clause-none
returns-clause-none c =
    let updates = (c.get_mut.follows.holds c.leave_beside.new.self).3 in
    none_kept c.args.self.now c.args.target.now c.leave_beside.new.self _ c.is_empty.result
    (inserted_text c.self.inside.rows (c.get_mut.follows.lender c.leave_beside.new.self) c.args.target.now c.leave_beside.new.self
    (updates (rw (← c.in-Some.ensures.value) refl)) ∙ ap (λ m. map.insert m c.args.target.now c.leave_beside.new.self) c.self.view_is)
    c.is_empty.ensures
