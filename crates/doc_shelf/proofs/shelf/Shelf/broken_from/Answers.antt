use Rattle.std.proofs.Common.{◌≡◌, not, subst, sym, ◌∙◌}
use Rattle.std.specs.Prelude.{IfOk, Some, filter}
use Rattle.doc_media.specs.Media.{beside_of}
use Rattle.doc_people.specs.Navigation.{is_before}
use Rattle.doc_people.specs.Sources.{broken_links}
use Rattle.doc_shelf_pages.specs.ViewLaws.{seen_in}
use Rattle.doc_shelf.proofs.shelf.Shelf.broken_from.Goals as goal

pub returns : goal.returns
returns g c =
    subst (λ s. IfOk c.broken_from.result (λ found. found ≡ filter (λ link. not (is_before link.source c.args.from.now))
    (broken_links (g.R.Renderer.page s.0) (seen_in s.1 c.args.reader.now) (beside_of c.args.media.now
    (Some c.args.reader.now))))) c.self.view_is
    (c.broken_from.ensures (g.R.Renderer.page c.self.inside.renderer) c.self.invariant.shelf.pages
    (c.self.invariant.in_step (sym c.keeps_texts.ensures ∙ c.if-not-keeps_texts.false)).by_group)
