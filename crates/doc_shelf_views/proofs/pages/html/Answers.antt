use Rattle.std.proofs.Common.{ap, ◌∙◌}
use Rattle.std.specs.Prelude.{Some}
use Rattle.doc_media.specs.Media.{beside_of}
use Rattle.doc_media_links.specs.MediaLinks.{shown_beside}
use Rattle.doc_page_parts.specs.Pages.{filled}
use Rattle.doc_shelf_pages.proofs.ListSteps.{made}
use Rattle.doc_shelf_pages.specs.ViewLaws.{seen_in}
use Rattle.doc_store_readers.specs.Sites.{goal_in}
use Rattle.doc_shelf_views.proofs.PageSteps.{html_is}
use Rattle.doc_shelf_views.proofs.pages.html.Goals as goal

pub returns : goal.returns
returns c render k =
    let view = seen_in c.args.store.now c.args.reader.now in
    let media = beside_of c.args.media.now (Some c.args.reader.now) in
    let path = c.args.path.now in
    let page = c.in-Some.page.now in
    ap Some (made c.new-2.result _ _ _ c.new-2.ensures c.in_ok-push_filled.ensures.ok c.in_ok-out.ensures.bytes)
    ∙ (λ i. Some (filled (λ dest. shown_beside (goal_in (c.new.ensures.sight i))
    (beside_of (c.new.ensures.media i) (Some (c.new.ensures.reader i))) (c.new.ensures.page i) dest) page))
    ∙ (λ i. Some (filled (shown_beside (goal_in (c.sight-sight.ensures i)) media path) page))
    ∙ html_is (shown_beside (goal_in view) media path) c.args.kept.now.with_texts (Some page) _ (c.in-Some.ensures render k)
