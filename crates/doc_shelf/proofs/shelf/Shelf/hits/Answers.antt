use Rattle.std.proofs.Common.{◌≡◌, length, take, subst, sym, ◌∙◌}
use Rattle.std.specs.Prelude.{IfOk}
use Rattle.doc_people.specs.Hits.{hits}
use Rattle.doc_people.specs.Views.{rendered_pages}
use Rattle.doc_shelf_pages.specs.ViewLaws.{seen_in}
use Rattle.doc_shelf.proofs.shelf.Shelf.hits.Goals as goal

pub returns-clause-count : goal.returns-clause-count
returns-clause-count g c =
    subst (λ s. IfOk c.hits.result (λ found. found.count ≡ length (hits (rendered_pages (g.R.Renderer.page s.0)
    (seen_in s.1 c.args.reader.now)) c.args.terms.now))) c.self.view_is
    (c.hits.ensures.count (g.R.Renderer.page c.self.inside.renderer) c.self.invariant.shelf.pages
    (c.self.invariant.in_step (sym c.keeps_texts.ensures ∙ c.if-not-keeps_texts.false)).by_group)

pub returns-clause-best : goal.returns-clause-best
returns-clause-best g c =
    subst (λ s. IfOk c.hits.result (λ found. found.best ≡ take c.args.most (hits (rendered_pages (g.R.Renderer.page s.0)
    (seen_in s.1 c.args.reader.now)) c.args.terms.now))) c.self.view_is
    (c.hits.ensures.best (g.R.Renderer.page c.self.inside.renderer) c.self.invariant.shelf.pages
    (c.self.invariant.in_step (sym c.keeps_texts.ensures ∙ c.if-not-keeps_texts.false)).by_group)
