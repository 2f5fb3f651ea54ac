use Rattle.std.proofs.Common.{chars}
use Rattle.doc_rules.specs.Html.{characters}
use Rattle.doc_html.proofs.WrittenSteps.{holds_more, text_begins, spells_text}
use Rattle.doc_html.proofs.html_writer.HtmlWriterWriter.text.Goals as goal

pub returns : goal.returns
returns g c = λ p h.
    holds_more (g.K.Links.shown c.args.self.now.links.now) _ _ c.args.text.now c.args.self.now.fresh c.fresh_behind-self.result p
    (characters (chars c.args.text.now)) h
    c.in_ok-push_str.ensures.bytes (text_begins c.fresh_behind-self.result c.args.self.now.fresh p.output (chars c.args.text.now)
    c.fresh_behind-self.ensures h.begins)
    (spells_text (g.K.Links.shown c.args.self.now.links.now) c.args.text.now c.utf8.text)
