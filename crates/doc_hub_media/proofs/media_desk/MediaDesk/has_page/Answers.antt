use Rattle.std.proofs.Common.{◌∙◌}
use Rattle.doc_store_readers.specs.Sites.{page_at}
use Rattle.doc_hub_media.proofs.DeskSteps.{was_found}
use Rattle.doc_hub_media.proofs.media_desk.MediaDesk.has_page.Goals as goal
use Rattle.doc_hub_media.specs.MediaSteps.{pages_at}

pub returns : goal.returns
returns c =
    c.is_some.ensures ∙ was_found (λ page. page.now.page) c.page.result (page_at (pages_at c.args.self.now).pages c.args.path.now)
    c.page.ensures
