use Rattle.std.proofs.Common.{ap, ◌∙◌}
use Rattle.doc_shelf_pages.specs.Shelves.{let_go}
use Rattle.doc_shelf_pages.proofs.EditSteps.{removed_after}
use Rattle.doc_shelf_pages.proofs.edits.remove.Goals as goal

pub returns-clause-kept : goal.returns-clause-kept
returns-clause-kept c render is k =
    removed_after render c.args.store.now c.remove.new.self is c.args.kept.now c.let_go.new.kept c.args.path.now k c.remove.ensures.state
    (c.let_go.ensures ∙ ap (let_go c.args.kept.now c.args.path.now) c.stamp_at-before.ensures.stamp)
