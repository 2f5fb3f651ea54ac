use Rattle.std.proofs.Common.{◌≡◌, ap, refl, subst, sym, ◌∙◌}
use Rattle.std.specs.Prelude.{IfOk, Some}
use Rattle.doc_http_replies.specs.Manners.{dress_of}
use Rattle.doc_media.specs.Media.{beside_of, goal_beside}
use Rattle.doc_media_links.specs.MediaLinks.{shown_beside}
use Rattle.doc_shelf_documents.proofs.DocumentSteps.{anew_is, by_goals, decided, found_is, kept_has, links_are, looked_has, looked_served}
use Rattle.doc_shelf_documents.proofs.DocumentSteps.{making_gives, making_gives_one}
use Rattle.doc_shelf_documents.proofs.documents.reply_with_page.Goals as goal
use Rattle.doc_shelf_documents.specs.Documents.{document_reply}
use Rattle.doc_shelf_pages.specs.Templates.{body_of}

pub returns-then-name_places-clause-reply : goal.returns-then-name_places-clause-reply
returns-then-name_places-clause-reply g c render store page served =
    let manner = c.args.writing.manner in
    subst (λ told. IfOk c.reply_made_anew.result (λ reply. reply ≡ told))
    (anew_is render store c.args.kept.now c.args.cache.now c.args.path.now c.args.stamp page served _
    (dress_of manner) manner.head_only manner.close
    ∙ (λ i. Some (document_reply (dress_of manner) manner.head_only manner.close
    (body_of c.args.path.now (λ dest. shown_beside (g.S.Sight.goals (c.new-linker.ensures.sight i))
    (beside_of (c.new-linker.ensures.media i) (Some (c.new-linker.ensures.reader i))) (c.new-linker.ensures.page i) dest)
    (render page.text)))))
    c.reply_made_anew.ensures

pub returns-in_err-found-clause-cache : goal.returns-in_err-found-clause-cache
returns-in_err-found-clause-cache g c render store page served =
    looked_has render store c.args.kept.now c.args.cache.now c.args.path.now c.args.stamp page served c.found_reply.new.cache _
    c.in_err-found.ensures.cache

pub returns-then-is_some-clause-reply : goal.returns-then-is_some-clause-reply
returns-then-is_some-clause-reply g c render store page served =
    let manner = c.args.writing.manner in
    let goals = g.S.Sight.goals c.args.sight.now in
    let media = beside_of c.args.media.now (Some c.args.reader.now) in
    found_is render store c.args.kept.now c.args.cache.now c.args.path.now c.args.stamp page served (goal_beside goals media) _ (
      refl,
      decided render store c.args.kept.now c.args.cache.now c.args.path.now c.args.stamp page served
          (goal_beside goals media) c.links.result.now c.in-Some.links.now c.new.result c.links.ensures
          c.in-Some.ensures (c.new.ensures ∙ c.in_ok-goals_beside.ensures),
    )
    (dress_of manner) manner.head_only manner.close c.in_ok-found.found c.in_ok-found.ensures.reply
    (sym c.is_some.ensures ∙ c.if-is_some.true)
    ∙ ap (λ document. Some (document_reply (dress_of manner) manner.head_only manner.close document))
    (by_goals render store c.args.kept.now c.args.cache.now c.args.path.now c.args.stamp page served goals media c.in-Some.links.now
    (links_are render store c.args.kept.now c.args.cache.now c.args.path.now c.args.stamp page served c.links.result.now
    c.in-Some.links.now c.links.ensures c.in-Some.ensures)
    (sym c.name_places.ensures ∙ c.if-name_places.false))

pub returns-then-is_some-clause-cache : goal.returns-then-is_some-clause-cache
returns-then-is_some-clause-cache g c render store page served =
    looked_has render store c.args.kept.now c.args.cache.now c.args.path.now c.args.stamp page served c.found_reply.new.cache _
    c.in_ok-found.ensures.cache

pub returns-in_err-made-clause-cache : goal.returns-in_err-made-clause-cache
returns-in_err-made-clause-cache g c render store page served =
    looked_has render store c.args.kept.now c.args.cache.now c.args.path.now c.args.stamp page served c.found_reply.new.cache _
    c.in_ok-found.ensures.cache

pub returns-in_default-2-clause-reply : goal.returns-in_default-2-clause-reply
returns-in_default-2-clause-reply g c render store page served =
    let manner = c.args.writing.manner in
    absurd (making_gives_one render store c.args.kept.now c.args.cache.now c.args.path.now c.args.stamp page served _
    (dress_of manner) manner.head_only manner.close (sym c.in_default-2.is ∙ c.in_ok-made.ensures))

pub returns-clause-reply : goal.returns-clause-reply
returns-clause-reply g c render store page served =
    let manner = c.args.writing.manner in
    ap Some (c.keep_made.ensures.reply
    ∙ ap (λ made. made.reply) (making_gives render store c.args.kept.now c.args.cache.now c.args.path.now c.args.stamp page served _
    (dress_of manner) manner.head_only manner.close c.in-Some-2.made (sym c.in-Some-2.is ∙ c.in_ok-made.ensures)))
    ∙ (λ i. Some (document_reply (dress_of manner) manner.head_only manner.close
    (body_of c.args.path.now (λ dest. shown_beside (g.S.Sight.goals (c.new-linker.ensures.sight i))
    (beside_of (c.new-linker.ensures.media i) (Some (c.new-linker.ensures.reader i))) (c.new-linker.ensures.page i) dest)
    (render page.text))))

pub returns-clause-cache : goal.returns-clause-cache
returns-clause-cache g c render store page served =
    let manner = c.args.writing.manner in
    let goals = g.S.Sight.goals c.args.sight.now in
    let media = beside_of c.args.media.now (Some c.args.reader.now) in
    kept_has render store c.args.kept.now c.found_reply.new.cache c.args.path.now c.args.stamp page
    (looked_served render store c.args.kept.now c.args.cache.now c.args.path.now c.args.stamp page served c.found_reply.new.cache _
    c.in_ok-found.ensures.cache)
    (goal_beside goals media) _ (
      refl,
      decided render store c.args.kept.now c.args.cache.now c.args.path.now c.args.stamp page served
          (goal_beside goals media) c.links.result.now c.in-Some.links.now c.new.result c.links.ensures
          c.in-Some.ensures (c.new.ensures ∙ c.in_ok-goals_beside.ensures),
    )
    c.keep_made.new.cache c.in-Some-2.made.document
    (ap (λ made. made.document) (making_gives render store c.args.kept.now c.args.cache.now c.args.path.now c.args.stamp page served _
    (dress_of manner) manner.head_only manner.close c.in-Some-2.made (sym c.in-Some-2.is ∙ c.in_ok-made.ensures))
    ∙ (λ i. body_of c.args.path.now (λ dest. shown_beside (g.S.Sight.goals (c.new-linker.ensures.sight i))
    (beside_of (c.new-linker.ensures.media i) (Some (c.new-linker.ensures.reader i))) (c.new-linker.ensures.page i) dest)
    (render page.text))
    ∙ sym (by_goals render store c.args.kept.now c.args.cache.now c.args.path.now c.args.stamp page served goals media c.in-Some.links.now
    (links_are render store c.args.kept.now c.args.cache.now c.args.path.now c.args.stamp page served c.links.result.now
    c.in-Some.links.now c.links.ensures c.in-Some.ensures)
    (sym c.name_places.ensures ∙ c.if-name_places.false)))
    c.keep_made.ensures.cache
