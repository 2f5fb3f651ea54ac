use Rattle.std.proofs.Common.{◌∙◌, chars}
use Rattle.doc_html.proofs.PageSteps.{holds_met, bytes_are}
use Rattle.doc_html.proofs.page_writer.PageWriterWriter.meet_text.Goals as goal

pub returns : goal.returns
returns c = λ p h.
    holds_met _ _ c.args.self.now.fresh _ _ _ _ c.args.self.now.tells_images _ p (chars c.args.text.now) _ h (c.in_ok-text.ensures
    ∙ bytes_are c.args.text.now c.utf8.text) c.in_ok-push.ensures.items
