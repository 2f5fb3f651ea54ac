use Rattle.std.proofs.Common.{Some}
use Rattle.std.specs.Prelude.{option_copied}
use Rattle.doc_hub_asking.specs.AskingSteps.{asking_shown}
use Rattle.doc_hub_media.specs.MediaSteps.{media_request_shown}
use Rattle.doc_hub_replies.proofs.BesideSteps.{medium_so, nobody_asks}
use Rattle.doc_hub_replies.proofs.serving.Serving.by_medium.Goals as goal

pub returns-in_default : goal.returns-in_default
returns-in_default g c =
    let self = c.args.self.now in
    nobody_asks self.settings.now self.readers.now (g.R.Renderer.page c.args.shelf.now.0) c.args.shelf.now.1.site c.args.request.now
    (Some c.args.media.now) (asking_shown c.in_ok-asking.asking) c.in_ok-asking.ensures c.in_default.ensures

pub returns : goal.returns
returns g c =
    let self = c.args.self.now in
    let exchange = c.exchange-exchange in
    medium_so self.settings.now self.readers.now (g.R.Renderer.page c.args.shelf.now.0) c.args.shelf.now.1.site c.args.request.now
    c.args.media.now exchange.result c.manner_by.result (asking_shown c.in_ok-asking.asking) c.in-Some.row.now
    (media_request_shown c.args.asked) (option_copied c.browse.result) c.is_guest.result c.is_for_people.result c.in_ok-asking.ensures c.in-Some.ensures
    c.requires c.answer.result exchange.ensures.request exchange.ensures.manner c.manner_by.ensures.dress c.manner_by.ensures.head_only
    c.manner_by.ensures.close c.browse.ensures c.is_guest.ensures c.is_for_people.ensures c.answer.ensures
