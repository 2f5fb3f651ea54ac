use Rattle.std.proofs.Common.{chars}
use Rattle.doc_html.proofs.PageSteps.{holds_text, bytes_are}
use Rattle.doc_html.proofs.WrittenSteps.{text_begins}
use Rattle.doc_html.proofs.page_writer.PageWriterWriter.text.Goals as goal

pub returns : goal.returns
returns c = λ p h.
    holds_text _ _ _ c.args.text.now c.args.self.now.fresh c.fresh_behind-self.result _ _ _ c.args.self.now.tells_images _ p
    (chars c.args.text.now) h c.in_ok-push_str.ensures.bytes (bytes_are c.args.text.now c.utf8.text)
    (text_begins c.fresh_behind-self.result c.args.self.now.fresh p.output (chars c.args.text.now) c.fresh_behind-self.ensures h.begins)
