use Rattle.std.proofs.Common.{◌≡◌, subst}
use Rattle.std.specs.Prelude.{IfOk, Some}
use Rattle.doc_media.specs.Media.{beside_of}
use Rattle.doc_shelf_pages.specs.ViewLaws.{seen_in}
use Rattle.doc_shelf_pages.specs.Views.{report_body}
use Rattle.doc_shelf.proofs.shelf.Shelf.report.Goals as goal

pub returns : goal.returns
returns g c =
    let render = g.R.Renderer.page c.self.inside.renderer in
    subst (λ s. IfOk c.report.result (λ text. text ≡ report_body (g.R.Renderer.page s.0) (seen_in s.1 c.args.reader.now)
    (beside_of c.args.media.now (Some c.args.reader.now)))) c.self.view_is
    (c.report.ensures render c.self.invariant.shelf.pages)
