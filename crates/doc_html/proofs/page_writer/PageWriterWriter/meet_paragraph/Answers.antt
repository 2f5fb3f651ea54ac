use Rattle.doc_html.proofs.PageSteps.{holds_met}
use Rattle.doc_html.proofs.page_writer.PageWriterWriter.meet_paragraph.Goals as goal

pub returns : goal.returns
returns c = λ p h.
    holds_met _ _ c.args.self.now.fresh _ _ _ _ c.args.self.now.tells_images _ p _ _ h c.in_ok-text.ensures c.in_ok-push.ensures.items
