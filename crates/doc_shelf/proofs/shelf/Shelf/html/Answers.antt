use Rattle.std.proofs.Common.{◌≡◌, subst}
use Rattle.std.specs.Prelude.{IfOk, Some, option_map}
use Rattle.doc_page_parts.specs.Pages.{filled}
use Rattle.doc_people.specs.Views.{rendered_at}
use Rattle.doc_media.specs.Media.{beside_of}
use Rattle.doc_media_links.specs.MediaLinks.{shown_beside}
use Rattle.doc_shelf_pages.specs.ViewLaws.{seen_in}
use Rattle.doc_store_readers.specs.Sites.{goal_in}
use Rattle.doc_shelf.proofs.shelf.Shelf.html.Goals as goal

pub returns : goal.returns
returns g c =
    subst (λ s. IfOk c.html.result (λ html. html ≡ option_map (filled (shown_beside (goal_in (seen_in s.1 c.args.reader.now))
    (beside_of c.args.media.now (Some c.args.reader.now)) c.args.path.now))
    (rendered_at (g.R.Renderer.page s.0) (seen_in s.1 c.args.reader.now) c.args.path.now))) c.self.view_is
    (c.html.ensures (g.R.Renderer.page c.self.inside.renderer) c.self.invariant.shelf.pages)
