use Rattle.std.proofs.Common.{refl}
use Rattle.doc_html.proofs.WrittenSteps.{holds_line, holds_new_line}
use Rattle.doc_html.proofs.html_writer.HtmlWriterWriter.new_line.Goals as goal

pub returns-then-self : goal.returns-then-self
returns-then-self g c = λ p h. holds_line (g.K.Links.shown c.args.self.now.links.now) _ c.args.self.now.fresh p h c.if-self.true

pub returns : goal.returns
returns g c = λ p h. holds_new_line (g.K.Links.shown c.args.self.now.links.now) _ _ c.args.self.now.fresh _ p h c.if-self.false
    c.in_ok-push_str.ensures.bytes refl
