use Rattle.std.proofs.Common.{sym, ◌∙◌}
use Rattle.doc_shelf_pages.proofs.EditSteps.{moved_after, moved_if, unmoved_after, unmoved_if}
use Rattle.doc_shelf_pages.proofs.edits.move_page.Goals as goal

pub returns-then-is_ok-clause-kept : goal.returns-then-is_ok-clause-kept
returns-then-is_ok-clause-kept c render is k =
    let old = c.args.store.now in
    let new = c.move_page-moved.new.self in
    moved_after render old new is c.args.from.now c.args.to.now c.in-Some.before c.requires.may (sym c.in-Some.ensures.stamp)
    c.args.kept.now c.carry.new.self c.drop_page.new.self c.args.stamp k c.requires.next c.in_ok-carry.ensures.ok
    (moved_if old new c.args.from.now c.args.to.now c.move_page-moved.result c.move_page-moved.ensures
    (sym c.is_ok.ensures.value ∙ c.if-is_ok.true))
    c.drop_page.ensures.rest

pub returns-else-is_ok-clause-kept : goal.returns-else-is_ok-clause-kept
returns-else-is_ok-clause-kept c render is k =
    let old = c.args.store.now in
    let new = c.move_page-moved.new.self in
    unmoved_after render old new is c.args.from.now c.args.to.now c.in-Some.before c.requires.may (sym c.in-Some.ensures.stamp)
    c.args.kept.now c.carry.new.self c.drop_page-else-is_ok.new.self c.args.stamp k c.requires.next c.in_ok-carry.ensures.ok
    (unmoved_if old new c.args.from.now c.args.to.now c.move_page-moved.result c.move_page-moved.ensures
    (sym c.is_ok.ensures.value ∙ c.if-is_ok.false))
    c.drop_page-else-is_ok.ensures.rest
