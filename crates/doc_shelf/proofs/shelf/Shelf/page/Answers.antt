use Rattle.std.proofs.Common.{◌≡◌, ap, subst, ◌∙◌}
use Rattle.std.specs.Prelude.{IfOk, Some, option_map}
use Rattle.doc_http_replies.specs.Manners.{dress_of}
use Rattle.doc_media.specs.Media.{beside_of}
use Rattle.doc_shelf_documents.specs.Documents.{document_beside, document_reply, page_shown}
use Rattle.doc_shelf_pages.specs.ViewLaws.{seen_in}
use Rattle.doc_store_readers.specs.Sites.{goal_in}
use Rattle.doc_shelf.proofs.ShelfSteps.{is_served, looked_at}
use Rattle.doc_shelf.proofs.shelf.Shelf.page.Goals as goal

pub invariant_of-self : goal.invariant_of-self
invariant_of-self g c =
    let render = g.R.Renderer.page c.self.inside.renderer in
    let store = c.self.inside.store in
    let page = c.in-Some.page.now in
    looked_at render store c.self.inside.kept c.self.inside.cache c.reply_with_page.new.cache c.self.inside.rows c.self.inside.bodies
    c.self.invariant
    (c.reply_with_page.ensures.cache render store page.page
    (is_served render store c.self.inside.kept c.self.inside.cache c.args.path.now page.stamp c.stamp-stamp.result page.page
    c.self.invariant.shelf
    c.stamp-stamp.ensures c.in-Some.ensures.stands))

pub returns-clause-reply : goal.returns-clause-reply
returns-clause-reply g c =
    let render = g.R.Renderer.page c.self.inside.renderer in
    let store = c.self.inside.store in
    let page = c.in-Some.page.now in
    let path = c.args.path.now in
    let reader = c.args.reader.now in
    let media = beside_of c.args.media.now (Some reader) in
    let manner = c.args.manner in
    let sent = document_reply (dress_of manner) manner.head_only manner.close in
    subst (λ shown. IfOk c.reply_with_page.result (λ reply. reply ≡ shown))
    (ap (λ v. Some (sent (document_beside render (goal_in v) media path page.page))) c.sight-sight.ensures
    ∙ ap (option_map (λ p. sent (document_beside render (goal_in (seen_in store reader)) media path p))) c.in-Some.ensures.page
    ∙ (λ i. page_shown (g.R.Renderer.page (c.self.view_is i).0) (seen_in (c.self.view_is i).1 reader) media path (dress_of manner)
    manner.head_only manner.close))
    (c.reply_with_page.ensures.reply render store page.page
    (is_served render store c.self.inside.kept c.self.inside.cache path page.stamp c.stamp-stamp.result page.page c.self.invariant.shelf
    c.stamp-stamp.ensures c.in-Some.ensures.stands))
