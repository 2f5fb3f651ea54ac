use Rattle.std.proofs.Common.{◌≡◌, ◌∙◌, ap, sym, refl}
use Rattle.std.specs.Prelude.{Some}
use Rattle.std.specs.FinMap as map
use Rattle.std.proofs.lemmas.Result.{on_ok_weaker, on_err_weaker}
use Rattle.doc_index_tables.specs.Maps.{text_map}
use Rattle.doc_index_tables.proofs.TableSteps.{inserted_text, looked_up_text, set_again}
use Rattle.doc_rows.proofs.RowsSteps.{path_set}
use Rattle.doc_rows.proofs.rows.Rows.add.Goals as goal

pub returns-clause-ok : goal.returns-clause-ok
returns-clause-ok c =
    let found = c.in-Some.ensures.value in
    let stands : map.get c.args.self.now c.args.row.now ≡ Some c.in-Some.paths.now =
    sym (found ∙ looked_up_text c.self.inside.rows.entries c.args.row.now ∙ ap (λ m. map.get m c.args.row.now) c.self.view_is) in
    let updates = (c.get_mut.follows.holds c.add.new.self).3 in
    on_ok_weaker c.add.result (λ set.
    inserted_text c.self.inside.rows (c.get_mut.follows.lender c.add.new.self) c.args.row.now c.add.new.self (updates (rw (← found) refl))
    ∙ ap (λ m. map.insert m c.args.row.now c.add.new.self) c.self.view_is
    ∙ ap (map.insert c.args.self.now c.args.row.now) set
    ∙ path_set c.args.self.now c.args.row.now c.in-Some.paths.now stands c.args.path.now) c.add.ensures.ok

pub returns-clause-err : goal.returns-clause-err
returns-clause-err c =
    let found = c.in-Some.ensures.value in
    let stands : map.get c.args.self.now c.args.row.now ≡ Some c.in-Some.paths.now =
    sym (found ∙ looked_up_text c.self.inside.rows.entries c.args.row.now ∙ ap (λ m. map.get m c.args.row.now) c.self.view_is) in
    let updates = (c.get_mut.follows.holds c.add.new.self).3 in
    on_err_weaker c.add.result (λ same.
    inserted_text c.self.inside.rows (c.get_mut.follows.lender c.add.new.self) c.args.row.now c.add.new.self (updates (rw (← found) refl))
    ∙ ap (λ m. map.insert m c.args.row.now c.add.new.self) c.self.view_is
    ∙ ap (map.insert c.args.self.now c.args.row.now) same
    ∙ set_again c.args.self.now c.args.row.now c.in-Some.paths.now stands) c.add.ensures.err

pub add_first-requires : goal.add_first-requires
add_first-requires c =
    let same = c.get_mut.follows.holds-at-none in
    ap (λ m. map.get (text_map m) c.args.row.now) same
    ∙ sym (c.in_default.ensures.value ∙ looked_up_text c.self.inside.rows.entries c.args.row.now)
