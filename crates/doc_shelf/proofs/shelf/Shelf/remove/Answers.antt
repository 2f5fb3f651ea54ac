use Rattle.std.proofs.Common.{refl}
use Rattle.doc_shelf.proofs.ShelfSteps.{edited_whole}
use Rattle.doc_shelf.proofs.shelf.Shelf.remove.Goals as goal

pub invariant_of-self : goal.invariant_of-self
invariant_of-self g c =
    let render = g.R.Renderer.page c.self.inside.renderer in
    let new = c.remove_in_step.new in
    edited_whole render render c.self.inside.store new.store c.self.inside.kept c.self.inside.kept new.kept c.self.inside.cache
    c.self.inside.rows new.rows c.self.inside.bodies c.clear.new.self c.clear.ensures refl c.self.invariant refl
    c.remove_in_step.ensures.texts
    (c.remove_in_step.ensures.kept render c.self.invariant.shelf.is_store c.self.invariant.shelf.pages)
    (c.remove_in_step.ensures.rows render c.self.invariant.shelf.is_store c.self.invariant.shelf.pages)
