use Rattle.std.proofs.Common.{◌≡◌, ap, subst, ◌∙◌}
use Rattle.std.specs.Prelude.{IfOk, Some}
use Rattle.doc_media.specs.Media.{beside_of}
use Rattle.doc_media_links.specs.MediaLinks.{shown_beside}
use Rattle.doc_page_parts.specs.Pages.{filled}
use Rattle.doc_people_editing.specs.Policies.{preview_policy}
use Rattle.doc_people_editing.specs.Preview.{preview_body}
use Rattle.doc_shelf_pages.specs.ViewLaws.{seen_in}
use Rattle.doc_store.specs.Store.{StoreState}
use Rattle.doc_store_readers.specs.Sites.{goal_in}
use Rattle.doc_hub_editing.specs.EditAnswers.{guarded_page}
use Rattle.doc_hub_editing.specs.EditResponses.{Shown, only_reply}
use Rattle.doc_hub_editing.specs.EditSteps.{editing_sent}
use Rattle.doc_hub_editing.proofs.previews.shown.Goals as goal

pub returns : goal.returns
returns g c =
    let reader = c.args.reader.now in
    let media = beside_of c.args.media.now (Some reader) in
    let path = c.args.path.now in
    let page = c.args.rendered.now in
    let seen = c.sight-sight.ensures ∙ ap (λ (store : StoreState). seen_in store reader) c.store.ensures in
    let html = c.get-2.ensures ∙ c.in_ok-html.ensures
    ∙ (λ i. filled (λ dest. shown_beside (goal_in (c.new.ensures.sight i)) (beside_of (c.new.ensures.media i)
    (Some (c.new.ensures.reader i))) (c.new.ensures.page i) dest) page)
    ∙ (λ i. filled (shown_beside (goal_in (seen i)) media path) page) in
    subst (λ body. IfOk c.guarded_page.result (λ a.
    a ≡ editing_sent c.args.visit.exchange.now (only_reply (Shown (guarded_page preview_policy body)))))
    (c.in_ok-body.ensures ∙ (λ i. preview_body c.args.visit.browse.now (c.text.ensures i) (c.get.ensures i) (html i)))
    c.guarded_page.ensures
