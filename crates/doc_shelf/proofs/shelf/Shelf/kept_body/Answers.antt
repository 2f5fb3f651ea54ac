use Rattle.std.proofs.Common.{◌≡◌, false, subst, sym, ◌∙◌}
use Rattle.std.specs.Prelude.{Some}
use Rattle.doc_media.specs.Media.{beside_of}
use Rattle.doc_media_links.specs.MediaLinks.{lead_to_media}
use Rattle.doc_page_parts.specs.declared.rendered.Rendered.{Rendered}
use Rattle.doc_people.specs.Views.{rendered_at}
use Rattle.doc_resolve.specs.Links.{kinds}
use Rattle.doc_shelf_pages.specs.ViewLaws.{seen_in}
use Rattle.doc_shelf.proofs.ShelfSteps.{body_beside}
use Rattle.doc_shelf.proofs.shelf.Shelf.kept_body.Goals as goal

pub returns : goal.returns
returns g c =
    let reader = c.args.reader.now in
    let media = beside_of c.args.media.now (Some reader) in
    let path = c.args.path.now in
    let render = g.R.Renderer.page c.self.inside.renderer in
    body_beside (g.R.Renderer.page c.args.self.now.0) c.args.browse.now c.args.offers (seen_in c.args.self.now.1 reader) media path
    c.body_among_pages.result (rendered_at (g.R.Renderer.page c.args.self.now.0) (seen_in c.args.self.now.1 reader) path)
    (subst (λ s. (page : Rendered) → rendered_at (g.R.Renderer.page s.0) (seen_in s.1 reader) path ≡ Some page
    → lead_to_media media (kinds path page.pieces) ≡ false) c.self.view_is
    (λ page at. sym (c.leads_to_media.ensures render page c.self.invariant.shelf.pages at) ∙ c.if-leads_to_media.false))
    c.body_among_pages.ensures
