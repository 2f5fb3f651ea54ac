use Rattle.std.proofs.Common.{Some, ap, sym, ◌∙◌}
use Rattle.std.specs.Prelude.{option_map}
use Rattle.doc_hub_media.specs.MediaRequests.{media_request_of}
use Rattle.doc_hub_media.specs.MediaSteps.{media_request_shown}
use Rattle.doc_hub_replies.proofs.BesideSteps.{no_media, nothing_asked}
use Rattle.doc_hub_replies.proofs.serving.Serving.by_media.Goals as goal

pub returns-in_default : goal.returns-in_default
returns-in_default g c =
    let self = c.args.self.now in
    no_media self.settings.now self.readers.now (g.R.Renderer.page c.args.shelf.now.0) c.args.shelf.now.1.site c.args.request.now
    self.media.now c.in_default.is

pub returns-in_default-media_request : goal.returns-in_default-media_request
returns-in_default-media_request g c =
    let self = c.args.self.now in
    let request = c.args.request.now in
    nothing_asked self.settings.now self.readers.now (g.R.Renderer.page c.args.shelf.now.0) c.args.shelf.now.1.site request self.media.now
    (ap (λ browse. media_request_of browse request) (sym c.browse.ensures) ∙ sym c.in_default-media_request.ensures)
