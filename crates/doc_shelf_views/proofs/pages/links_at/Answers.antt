use Rattle.std.proofs.Common.{ap, ◌∙◌}
use Rattle.std.specs.Prelude.{option_map}
use Rattle.doc_page_parts.specs.declared.rendered.Rendered.{Rendered}
use Rattle.doc_resolve.specs.Links.{kinds}
use Rattle.doc_shelf_views.proofs.PageSteps.{links_kept}
use Rattle.doc_shelf_views.proofs.pages.links_at.Goals as goal
use Rattle.doc_store_readers.specs.Pages.{Page}

pub returns-in-Some : goal.returns-in-Some
returns-in-Some c render k =
    c.links_of.ensures
    ∙ links_kept render c.args.store.now c.args.kept.now c.args.path.now c.in-Some.page.now.stamp c.stamp.result
    c.in-Some.page.now.page c.links.result.now k c.links.ensures c.stamp.ensures c.in-Some.ensures.stands
    ∙ ap (λ page. option_map (λ (p : Rendered). kinds c.args.path.now p.pieces) (option_map (λ (p : Page). render p.text) page))
    c.in-Some.ensures.page
