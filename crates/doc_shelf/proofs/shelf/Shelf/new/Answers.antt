use Rattle.doc_shelf.proofs.ShelfSteps.{is_new_whole}
use Rattle.doc_shelf.proofs.shelf.Shelf.new.Goals as goal

pub invariant_of-result : goal.invariant_of-result
invariant_of-result g c =
    is_new_whole (g.R.Renderer.page c.args.renderer) c.new-2.result c.new-3.result c.args.for_people c.args.capacity c.in_ok-cache.cache
    c.new-4.result c.new-5.result c.new-2.ensures c.new-3.ensures c.new-4.ensures c.new-5.ensures c.in_ok-cache.ensures
