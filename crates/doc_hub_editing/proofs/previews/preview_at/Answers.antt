use Rattle.std.proofs.Common.{◌≡◌, ◌+◌, true, false, add-zero, ap, sym, subst, ◌∙◌}
use Rattle.std.specs.Prelude.{IfOk, Some}
use Rattle.doc_media.specs.Media.{beside_of}
use Rattle.std.specs.Str.{IsUtf8}
use Rattle.std.proofs.lemmas.Str.{is_utf8-from_IsUtf8}
use Rattle.doc_shelf_pages.specs.ViewLaws.{seen_in}
use Rattle.doc_hub_editing.specs.EditAnswers.{preview_of}
use Rattle.doc_hub_editing.specs.EditResponses.{Shown, only_reply}
use Rattle.doc_hub_editing.specs.EditSteps.{editing_sent}
use Rattle.doc_hub_editing.proofs.PreviewSteps.{by_text, counted_by, no_text, told}
use Rattle.doc_hub_editing.proofs.previews.preview_at.Goals as goal

pub returns-in_default-clause-answer : goal.returns-in_default-clause-answer
returns-in_default-clause-answer g c =
    let visit = c.args.visit in
    let request = visit.exchange.now.request.now in
    let bad = no_text request.body (λ utf8. c.in_default.ensures.cases.0 (subst IsUtf8 (sym c.get.ensures) utf8)) in
    subst (λ response. IfOk c.no_text.result (λ a. a ≡ editing_sent visit.exchange.now response))
    (sym (by_text (g.R.Renderer.page c.args.shelf.now.0) visit.browse.now (seen_in c.args.shelf.now.1 c.args.reader.now)
    (beside_of c.args.media.now (Some c.args.reader.now)) c.args.path.now
    request false c.if-not-exchange.false bad)) c.no_text.ensures

pub returns-in_default-clause-counted : goal.returns-in_default-clause-counted
returns-in_default-clause-counted g c =
    let request = c.args.visit.exchange.now.request.now in
    let bad = no_text request.body (λ utf8. c.in_default.ensures.cases.0 (subst IsUtf8 (sym c.get.ensures) utf8)) in
    let render = g.R.Renderer.page c.args.shelf.now.0 in
    told c.no_text.result (sym (ap (λ n. g.R.Renderer.count c.args.shelf.now.0 + n)
    (counted_by render c.args.visit.browse.now (seen_in c.args.shelf.now.1 c.args.reader.now)
    (beside_of c.args.media.now (Some c.args.reader.now)) c.args.path.now request false
    c.if-not-exchange.false bad) ∙ add-zero (g.R.Renderer.count c.args.shelf.now.0)))

pub returns-clause-answer : goal.returns-clause-answer
returns-clause-answer g c =
    let visit = c.args.visit in
    let request = visit.exchange.now.request.now in
    let render = g.R.Renderer.page c.args.shelf.now.0 in
    let good = is_utf8-from_IsUtf8 request.body (subst IsUtf8 c.get.ensures c.in-Ok.ensures.cases.1) in
    let rendered = c.in_ok-rendered.ensures.page ∙ ap render (c.in-Ok.ensures.cases.0 ∙ c.get.ensures) in
    subst (λ response. IfOk c.shown.result (λ a. a ≡ editing_sent visit.exchange.now response))
    ((λ i. only_reply (Shown (preview_of visit.browse.now (seen_in (c.render.ensures.store i) c.args.reader.now)
    (beside_of c.args.media.now (Some c.args.reader.now)) c.args.path.now
    (rendered i))))
    ∙ sym (by_text render visit.browse.now (seen_in c.args.shelf.now.1 c.args.reader.now)
    (beside_of c.args.media.now (Some c.args.reader.now)) c.args.path.now request true
    c.if-not-exchange.false good)) c.shown.ensures

pub returns-clause-counted : goal.returns-clause-counted
returns-clause-counted g c =
    let request = c.args.visit.exchange.now.request.now in
    let good = is_utf8-from_IsUtf8 request.body (subst IsUtf8 c.get.ensures c.in-Ok.ensures.cases.1) in
    let render = g.R.Renderer.page c.args.shelf.now.0 in
    told c.shown.result (c.render.ensures.counted ∙ sym (ap (λ n. g.R.Renderer.count c.args.shelf.now.0 + n)
    (counted_by render c.args.visit.browse.now (seen_in c.args.shelf.now.1 c.args.reader.now)
    (beside_of c.args.media.now (Some c.args.reader.now)) c.args.path.now request true
    c.if-not-exchange.false good)))
