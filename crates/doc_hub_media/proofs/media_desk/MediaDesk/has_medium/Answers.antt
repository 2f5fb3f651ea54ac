use Rattle.std.proofs.Common.{◌∙◌}
use Rattle.doc_media.specs.Held.{page_of}
use Rattle.doc_media.specs.Media.{medium_in}
use Rattle.doc_hub_media.proofs.DeskSteps.{was_found}
use Rattle.doc_hub_media.proofs.media_desk.MediaDesk.has_medium.Goals as goal
use Rattle.doc_hub_media.specs.MediaSteps.{beside_at}

pub returns : goal.returns
returns c =
    c.is_some.ensures ∙ was_found (λ medium. page_of medium.now) c.seen.result (medium_in (beside_at c.args.self.now) c.args.path.now)
    c.seen.ensures.medium
