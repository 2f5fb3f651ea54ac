use Rattle.doc_html.proofs.WrittenSteps.{holds_text}
use Rattle.doc_html.proofs.html_writer.HtmlWriterWriter.meet_paragraph.Goals as goal

pub returns : goal.returns
returns g c = λ p h. holds_text (g.K.Links.shown c.args.self.now.links.now) _ c.args.self.now.fresh p _ h
