use Rattle.std.proofs.Common.{◌≡◌, subst}
use Rattle.std.specs.Prelude.{IfSome, None, Some, option_map}
use Rattle.doc_people.specs.Pages.{page_body}
use Rattle.doc_people.specs.Views.{rendered_at}
use Rattle.doc_shelf_pages.specs.ViewLaws.{seen_in}
use Rattle.doc_shelf.proofs.ShelfSteps.{body_found}
use Rattle.doc_shelf.proofs.shelf.Shelf.body_among_pages.Goals as goal

pub returns : goal.returns
returns g c =
    subst (λ s. IfSome c.find.result (λ text. option_map (page_body (g.R.Renderer.page s.0) c.args.browse.now c.args.offers
    (seen_in s.1 c.args.reader.now) None c.args.path.now) (rendered_at (g.R.Renderer.page s.0)
    (seen_in s.1 c.args.reader.now) c.args.path.now)
    ≡ Some text.now)) c.self.view_is
    (body_found (g.R.Renderer.page c.self.inside.renderer) c.self.inside.store c.self.inside.bodies c.args.browse.now c.args.offers
    c.args.path.now c.args.reader.now c.find.result c.self.invariant.are_bodies c.find.ensures)
