use Rattle.std.proofs.Common.{ap, sym, ◌∙◌}
use Rattle.std.specs.Prelude.{Some, option_map}
use Rattle.doc_shelf_pages.specs.ViewLaws.{seen_in}
use Rattle.doc_shelf_pages.specs.Views.{backlinks_body}
use Rattle.doc_store_readers.specs.Sites.{page_at}
use Rattle.doc_shelf.proofs.shelf.Shelf.backlinks.Goals as goal

pub backlinks-requires-clause-page : goal.backlinks-requires-clause-page
backlinks-requires-clause-page g c = (c.in-Some.field-0.now.page, sym c.in-Some.ensures.page)

pub returns : goal.returns
returns g c =
    let render = g.R.Renderer.page c.self.inside.renderer in
    let store = c.self.inside.store in
    let path = c.args.path.now in
    let reader = c.args.reader.now in
    ap Some (c.in_ok-backlinks.ensures render c.self.invariant.shelf.pages)
    ∙ ap (option_map (λ page. backlinks_body render (seen_in store reader) path)) c.in-Some.ensures.page
    ∙ (λ i. option_map (λ page. backlinks_body (g.R.Renderer.page (c.self.view_is i).0) (seen_in (c.self.view_is i).1 reader) path)
    (page_at (seen_in (c.self.view_is i).1 reader).pages path))
