use Rattle.std.proofs.Common.{refl}
use Rattle.doc_html.proofs.PageSteps.{holds_heading}
use Rattle.doc_html.proofs.page_writer.PageWriterWriter.meet_heading.Goals as goal

pub returns : goal.returns
returns c = λ p h.
    holds_heading _ _ c.args.self.now.fresh _ _ _ c.args.self.now.tells_images _ p h c.args.level _ _ _ _ _ _ _ _ _
    c.in_ok-anchor.anchor _ _ c.in_ok-text.ensures c.in_ok-copy.ensures c.get.ensures c.get.utf8 c.in_ok-anchor.ensures.ok
    c.get-2.ensures c.get-2.utf8 c.anchor.view_is c.in_ok-push_id.ensures refl c.in_ok-push.ensures.items c.in_ok-push-2.ensures.items
