use Rattle.std.proofs.Common.{chars}
use Rattle.doc_page_parts.specs.Escaping.{escaped}
use Rattle.doc_rules.specs.Escaping.{html_escape}
use Rattle.doc_rules.specs.Html.{characters}
use Rattle.doc_html.proofs.WrittenSteps.{holds_more, escape_begins, spells_escape}
use Rattle.doc_html.proofs.html_writer.HtmlWriterWriter.escaped.Goals as goal

pub returns : goal.returns
returns g c = λ p h.
    holds_more (g.K.Links.shown c.args.self.now.links.now) _ _ (escaped c.args.text.now) c.args.self.now.fresh c.fresh_behind-self.result
    p (characters (html_escape (chars c.args.text.now))) h
    c.in_ok-push_escaped.ensures (escape_begins c.fresh_behind-self.result c.args.self.now.fresh p.output (chars c.args.text.now)
    c.fresh_behind-self.ensures h.begins)
    (spells_escape (g.K.Links.shown c.args.self.now.links.now) c.args.text.now c.utf8.text)
