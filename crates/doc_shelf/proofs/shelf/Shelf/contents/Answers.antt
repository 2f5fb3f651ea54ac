use Rattle.std.proofs.Common.{◌≡◌, subst}
use Rattle.std.specs.Prelude.{IfOk}
use Rattle.doc_listings.specs.Listings.{contents_of_lines}
use Rattle.doc_shelf_pages.specs.RenderingSteps.{texts_of}
use Rattle.doc_shelf_pages.specs.ViewLaws.{seen_in}
use Rattle.doc_shelf_pages.specs.Views.{contents_body}
use Rattle.doc_shelf.proofs.shelf.Shelf.contents.Goals as goal

pub returns : goal.returns
returns g c =
    let render = g.R.Renderer.page c.self.inside.renderer in
    subst
    (λ s. IfOk c.contents.result (λ lines. contents_of_lines (texts_of lines.items)
    ≡ contents_body (g.R.Renderer.page s.0) (seen_in s.1 c.args.reader.now)))
    c.self.view_is (c.contents.ensures render c.self.invariant.shelf.is_store c.self.invariant.shelf.pages)
