use Rattle.std.proofs.Common.{◌≡◌, subst}
use Rattle.std.specs.Prelude.{IfOk, option_copied, option_map}
use Rattle.doc_people.specs.Views.{rendered_at}
use Rattle.doc_shelf_pages.specs.ViewLaws.{seen_in}
use Rattle.doc_shelf.proofs.shelf.Shelf.headings.Goals as goal

pub returns : goal.returns
returns g c =
    subst (λ s. IfOk c.headings.result (λ headings. option_copied headings ≡ option_map (λ page. page.headings)
    (rendered_at (g.R.Renderer.page s.0) (seen_in s.1 c.args.reader.now) c.args.path.now))) c.self.view_is
    (c.headings.ensures (g.R.Renderer.page c.self.inside.renderer) c.self.invariant.shelf.pages)
