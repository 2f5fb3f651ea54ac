use Rattle.std.proofs.Common.{chars}
use Rattle.doc_page_parts.specs.Escaping.{escaped}
use Rattle.doc_rules.specs.Escaping.{html_escape}
use Rattle.doc_html.proofs.PageSteps.{holds_text, escapes_are}
use Rattle.doc_html.proofs.WrittenSteps.{escape_begins}
use Rattle.doc_html.proofs.page_writer.PageWriterWriter.escaped.Goals as goal

pub returns : goal.returns
returns c = λ p h.
    holds_text _ _ _ (escaped c.args.text.now) c.args.self.now.fresh c.fresh_behind-self.result _ _ _ c.args.self.now.tells_images _ p
    (html_escape (chars c.args.text.now)) h c.in_ok-push_escaped.ensures
    (escapes_are c.args.text.now c.utf8.text)
    (escape_begins c.fresh_behind-self.result c.args.self.now.fresh p.output (chars c.args.text.now) c.fresh_behind-self.ensures h.begins)
