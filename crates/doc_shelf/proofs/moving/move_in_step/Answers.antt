use Rattle.std.proofs.Common.{sym, subst, ◌∙◌}
use Rattle.std.specs.FinMap as map
use Rattle.doc_shelf_pages.proofs.EditSteps.{moved_if, unmoved_if}
use Rattle.doc_shelf_views.specs.Linking.{linking}
use Rattle.doc_shelf.specs.Shelves.{ArePeopleRows}
use Rattle.doc_shelf.proofs.StepLaws.{found_still, moved_to, none_stands, none_there, of_some}
use Rattle.doc_shelf.proofs.moving.move_in_step.Goals as goal

pub returns-in_err-widen-clause-rows : goal.returns-in_err-widen-clause-rows
returns-in_err-widen-clause-rows c render is kept stood people =
    let old = c.args.store.now in
    let moving = of_some _ _ c.in-Some.page c.in-Some.is c.in_ok-page.ensures.known render kept in
    c.in_err-widen.ensures.err (linking render) old.site.pages
    (none_stands (linking render) old.site.pages c.args.to.now _ moving.none.0 moving.none.1
    (none_there old c.args.from.now c.args.to.now c.requires.may)) (stood people)

pub returns-then-is_ok-clause-rows : goal.returns-then-is_ok-clause-rows
returns-then-is_ok-clause-rows c render is kept stood people =
    let old = c.args.store.now in
    let from = c.args.from.now in
    let to = c.args.to.now in
    let new = c.move_page-moved.new.store in
    let left = c.lift.new.self in
    let moving = of_some _ _ c.in-Some.page c.in-Some.is c.in_ok-page.ensures.known render kept in
    subst (λ s. ArePeopleRows (linking render) s.site.pages left)
    (sym (moved_if old new from to c.move_page-moved.result c.move_page-moved.ensures.store (sym c.is_ok.ensures.value ∙ c.if-is_ok.true)))
    (moved_to old from to c.requires.may moving.page moving.stands (linking render) left
    (c.lift.ensures (linking render) (map.insert old.site.pages to moving.page) moving.page
    (found_still old from to c.requires.may moving.page moving.stands) moving.groups (moving.links ∙ sym c.get.ensures)
    (c.narrow.ensures (linking render) old.site.pages moving.page moving.groups moving.writes
    (c.in_ok-widen.ensures.ok (linking render) old.site.pages
    (none_stands (linking render) old.site.pages to _ moving.none.0 moving.none.1 (none_there old from to c.requires.may))
    (stood people)))))

pub returns-clause-rows : goal.returns-clause-rows
returns-clause-rows c render is kept stood people =
    let old = c.args.store.now in
    let from = c.args.from.now in
    let to = c.args.to.now in
    let new = c.move_page-moved.new.store in
    let moving = of_some _ _ c.in-Some.page c.in-Some.is c.in_ok-page.ensures.known render kept in
    subst (λ s. ArePeopleRows (linking render) s.site.pages c.narrow_back.new.self)
    (sym (unmoved_if old new from to c.move_page-moved.result c.move_page-moved.ensures.store
    (sym c.is_ok.ensures.value ∙ c.if-is_ok.false)))
    (c.narrow_back.ensures (linking render) old.site.pages
    (c.in_ok-widen.ensures.ok (linking render) old.site.pages
    (none_stands (linking render) old.site.pages to _ moving.none.0 moving.none.1 (none_there old from to c.requires.may))
    (stood people)))
