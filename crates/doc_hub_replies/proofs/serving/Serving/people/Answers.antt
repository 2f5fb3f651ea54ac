use Rattle.std.proofs.Common.{ap}
use Rattle.doc_media.specs.Media.{beside_of}
use Rattle.doc_store_readers.specs.Sites.{view_of}
use Rattle.doc_http.specs.declared.request.Request.{Request}
use Rattle.doc_hub_asking.specs.Asking.{row_of}
use Rattle.doc_hub_asking.specs.AskingSteps.{asking_shown}
use Rattle.doc_hub_replies.proofs.ServingSteps.{nobody_is_told, sent_to_people, somebody_is_shown}
use Rattle.doc_hub_replies.proofs.serving.Serving.people.Goals as goal
use Rattle.doc_hub_replies.specs.ServingSteps.{closes_after}

pub returns-in-None-clause-answer : goal.returns-in-None-clause-answer
returns-in-None-clause-answer g c =
    let request = c.args.request.now in
    let browse = c.args.browse.now in
    let asking = asking_shown c.args.asking.now in
    let render = g.R.Renderer.page c.args.shelf.now.0 in
    sent_to_people c.exchange-exchange.result request c.manner-manner.result
    (closes_after c.args.self.now.settings.now request) c.exchange-exchange.ensures.manner
    c.manner-manner.ensures.head_only c.manner-manner.ensures.close _ _ c.unauthorized.result
    (nobody_is_told render browse request (view_of c.args.shelf.now.1.site (row_of asking))
    (beside_of c.args.self.now.media.now (row_of asking)) asking c.in-None.ensures)
    c.unauthorized.ensures

pub returns-in-Some-clause-answer : goal.returns-in-Some-clause-answer
returns-in-Some-clause-answer g c =
    let request = c.args.request.now in
    let browse = c.args.browse.now in
    let asking = asking_shown c.args.asking.now in
    let render = g.R.Renderer.page c.args.shelf.now.0 in
    sent_to_people c.exchange-exchange.result request c.manner-manner.result
    (closes_after c.args.self.now.settings.now request) c.exchange-exchange.ensures.manner
    c.manner-manner.ensures.head_only c.manner-manner.ensures.close _ _ c.shown.result
    (somebody_is_shown render browse request c.args.shelf.now.1.site c.args.self.now.media.now c.in-Some.row.now c.is_guest.result c.owns.result
    c.exchange-exchange.result.request.now.target asking c.in-Some.ensures c.is_guest.ensures c.owns.ensures
    (ap (λ (r : Request). r.target) c.exchange-exchange.ensures.request))
    c.shown.ensures.answer
