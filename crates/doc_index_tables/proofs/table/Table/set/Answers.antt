use Rattle.std.proofs.Common.{◌≡◌, ◌∙◌, ap, sym}
use Rattle.std.specs.Prelude.{Some}
use Rattle.std.specs.FinMap as map
use Rattle.std.proofs.lemmas.Result.{on_ok_weaker, on_err_weaker}
use Rattle.doc_index_tables.proofs.TableSteps.{number_set, set_again}
use Rattle.doc_index_tables.proofs.TextSteps.{lent_is}
use Rattle.doc_index_tables.proofs.table.Table.set.Goals as goal

pub returns-clause-ok : goal.returns-clause-ok
returns-clause-ok c =
    let stands : map.get c.args.self.now c.args.text.now ≡ Some c.in-Some.row.now =
    sym (c.in-Some.ensures.value ∙ ap (λ m. map.get m c.args.text.now) c.self.view_is) in
    on_ok_weaker c.set.result (λ set.
    lent_is c.get_mut.result c.in-Some.row c.in-Some.is (c.get_mut.follows.holds c.set.new.self)
    ∙ ap (λ m. map.insert m c.args.text.now c.set.new.self) c.self.view_is
    ∙ ap (map.insert c.args.self.now c.args.text.now) set
    ∙ number_set c.args.self.now c.args.text.now c.in-Some.row.now stands c.args.number c.args.value) c.set.ensures.ok

pub returns-clause-err : goal.returns-clause-err
returns-clause-err c =
    let stands : map.get c.args.self.now c.args.text.now ≡ Some c.in-Some.row.now =
    sym (c.in-Some.ensures.value ∙ ap (λ m. map.get m c.args.text.now) c.self.view_is) in
    on_err_weaker c.set.result (λ same.
    lent_is c.get_mut.result c.in-Some.row c.in-Some.is (c.get_mut.follows.holds c.set.new.self)
    ∙ ap (λ m. map.insert m c.args.text.now c.set.new.self) c.self.view_is
    ∙ ap (map.insert c.args.self.now c.args.text.now) same
    ∙ set_again c.args.self.now c.args.text.now c.in-Some.row.now stands) c.set.ensures.err
