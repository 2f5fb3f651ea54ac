use Rattle.std.proofs.Common.{◌≡◌, take, subst, sym, ◌∙◌}
use Rattle.std.specs.Prelude.{IfOk}
use Rattle.doc_people.specs.Lists.{sources_from}
use Rattle.doc_shelf_pages.specs.ViewLaws.{seen_in}
use Rattle.doc_shelf.proofs.shelf.Shelf.sources_from.Goals as goal

pub returns : goal.returns
returns g c =
    subst (λ s. IfOk c.sources_from.result (λ found. found
    ≡ take c.args.most (sources_from (g.R.Renderer.page s.0) (seen_in s.1 c.args.reader.now) c.args.path.now c.args.from.now)))
    c.self.view_is
    (c.sources_from.ensures (g.R.Renderer.page c.self.inside.renderer) c.self.invariant.shelf.pages
    (c.self.invariant.in_step (sym c.keeps_texts.ensures ∙ c.if-not-keeps_texts.false)).by_link)
