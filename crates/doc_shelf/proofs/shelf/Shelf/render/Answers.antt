use Rattle.std.proofs.Common.{◌+◌, ap, sym, subst, ◌∙◌}
use Rattle.doc_shelf.specs.Shelves.{IsWhole}
use Rattle.doc_shelf.proofs.shelf.Shelf.render.Goals as goal

pub invariant_of-self : goal.invariant_of-self
invariant_of-self g c =
    let inside = c.self.inside in
    subst (λ render. IsWhole render inside.store inside.kept inside.cache inside.rows inside.bodies) (sym c.render.ensures.same)
    c.self.invariant

pub returns-clause-counted : goal.returns-clause-counted
returns-clause-counted g c = c.render.ensures.counted ∙ ap (λ s. g.R.Renderer.count s.0 + 1) c.self.view_is
