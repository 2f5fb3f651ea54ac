use Rattle.std.proofs.Common.{◌≡◌, ◌∙◌, ap, sym}
use Rattle.std.specs.Prelude.{Some}
use Rattle.std.specs.FinMap as map
use Rattle.doc_index_tables.proofs.TableSteps.{left_is, nothing_left, set_and_removed}
use Rattle.doc_index_tables.proofs.TextSteps.{lent_is}
use Rattle.doc_index_tables.proofs.table.Table.take_in_row.Goals as goal

pub returns-in_default-clause-left : goal.returns-in_default-clause-left
returns-in_default-clause-left c =
    nothing_left c.args.self.now c.args.text.now c.args.number
    (sym (c.in_default.ensures.value ∙ ap (λ m. map.get m c.args.text.now) c.self.view_is))

pub returns-clause-left : goal.returns-clause-left
returns-clause-left c =
    let stands : map.get c.args.self.now c.args.text.now ≡ Some c.in-Some.row.now =
    sym (c.in-Some.ensures.value ∙ ap (λ m. map.get m c.args.text.now) c.self.view_is) in
    c.len.ensures ∙ ap map.len (c.take.ensures ∙ left_is c.args.self.now c.args.text.now c.in-Some.row.now stands c.args.number)

pub returns-clause-rest : goal.returns-clause-rest
returns-clause-rest c =
    ap (λ m. map.remove m c.args.text.now)
    (lent_is c.get_mut.result c.in-Some.row c.in-Some.is (c.get_mut.follows.holds c.take.new.self)
    ∙ ap (λ m. map.insert m c.args.text.now c.take.new.self) c.self.view_is)
    ∙ set_and_removed c.args.self.now c.args.text.now c.take.new.self

pub returns-clause-row : goal.returns-clause-row
returns-clause-row c =
    let stands : map.get c.args.self.now c.args.text.now ≡ Some c.in-Some.row.now =
    sym (c.in-Some.ensures.value ∙ ap (λ m. map.get m c.args.text.now) c.self.view_is) in
    λ _. lent_is c.get_mut.result c.in-Some.row c.in-Some.is (c.get_mut.follows.holds c.take.new.self)
    ∙ ap (λ m. map.insert m c.args.text.now c.take.new.self) c.self.view_is
    ∙ ap (map.insert c.args.self.now c.args.text.now) (c.take.ensures
    ∙ left_is c.args.self.now c.args.text.now c.in-Some.row.now stands c.args.number)
