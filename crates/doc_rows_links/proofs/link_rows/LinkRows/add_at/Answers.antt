use Rattle.std.proofs.Common.{◌≡◌, ◌∙◌, ap, sym, refl, subst, inl}
use Rattle.std.specs.Prelude.{Some, option_copied}
use Rattle.std.specs.FinMap as map
use Rattle.std.proofs.lemmas.Result.{on_ok_weaker, on_err_weaker}
use Rattle.doc_index_tables.specs.Maps.{text_map}
use Rattle.doc_index_tables.proofs.TableSteps.{inserted_text, looked_up_text}
use Rattle.doc_rows.specs.Rows.{rows_beside, rows_of, rows_of_some}
use Rattle.doc_rows_links.specs.LinkSteps.{AllHaveMore, only_at}
use Rattle.doc_rows_links.proofs.PlaceSteps.{set_again_or_less, set_found_more}
use Rattle.doc_rows_links.proofs.link_rows.LinkRows.add_at.Goals as goal

pub returns-clause-ok : goal.returns-clause-ok
returns-clause-ok c =
    let found = c.in-Some.ensures.value in
    let stands : map.get c.args.self.now c.args.target.now ≡ Some c.in-Some.rows.now =
    sym (found ∙ looked_up_text c.self.inside.rows.entries c.args.target.now ∙ ap (λ m. map.get m c.args.target.now) c.self.view_is) in
    let updates = (c.get_mut.follows.holds c.add_beside.new.self).3 in
    on_ok_weaker c.add_beside.result (set_found_more c.args.self.now c.args.target.now c.args.path.now
    (rows_beside (rows_of c.args.groups.now) (rows_of_some (option_copied c.args.others))) c.in-Some.rows.now c.add_beside.new.self _ stands
    (inserted_text c.self.inside.rows (c.get_mut.follows.lender c.add_beside.new.self) c.args.target.now c.add_beside.new.self
    (updates (rw (← found) refl)) ∙ ap (λ m. map.insert m c.args.target.now c.add_beside.new.self) c.self.view_is)) c.add_beside.ensures.ok

pub returns-clause-err : goal.returns-clause-err
returns-clause-err c =
    let found = c.in-Some.ensures.value in
    let stands : map.get c.args.self.now c.args.target.now ≡ Some c.in-Some.rows.now =
    sym (found ∙ looked_up_text c.self.inside.rows.entries c.args.target.now ∙ ap (λ m. map.get m c.args.target.now) c.self.view_is) in
    let updates = (c.get_mut.follows.holds c.add_beside.new.self).3 in
    on_err_weaker c.add_beside.result (set_again_or_less c.args.self.now c.args.target.now c.args.path.now
    (rows_beside (rows_of c.args.groups.now) (rows_of_some (option_copied c.args.others))) c.in-Some.rows.now c.add_beside.new.self _ stands
    (inserted_text c.self.inside.rows (c.get_mut.follows.lender c.add_beside.new.self) c.args.target.now c.add_beside.new.self
    (updates (rw (← found) refl)) ∙ ap (λ m. map.insert m c.args.target.now c.add_beside.new.self) c.self.view_is)) c.add_beside.ensures.err

pub add_first-requires : goal.add_first-requires
add_first-requires c =
    let same = c.get_mut.follows.holds-at-none in
    ap (λ m. map.get (text_map m) c.args.target.now) same
    ∙ sym (c.in_default.ensures.value ∙ looked_up_text c.self.inside.rows.entries c.args.target.now)

pub returns-in_default-clause-ok : goal.returns-in_default-clause-ok
returns-in_default-clause-ok c =
    on_ok_weaker c.add_first.result (subst (λ m. AllHaveMore m c.args.path.now (only_at c.args.target.now
    (rows_beside (rows_of c.args.groups.now) (rows_of_some (option_copied c.args.others)))) c.add_first.new.self)
    (ap text_map c.get_mut.follows.holds-at-none ∙ c.self.view_is)) c.add_first.ensures.ok

pub returns-in_default-clause-err : goal.returns-in_default-clause-err
returns-in_default-clause-err c =
    on_err_weaker c.add_first.result (λ same. inl (same ∙ ap text_map c.get_mut.follows.holds-at-none ∙ c.self.view_is))
    c.add_first.ensures.err
