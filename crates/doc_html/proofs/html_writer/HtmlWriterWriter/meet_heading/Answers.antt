use Rattle.doc_html.proofs.WrittenSteps.{holds_heading}
use Rattle.doc_html.proofs.html_writer.HtmlWriterWriter.meet_heading.Goals as goal

pub returns : goal.returns
returns g c = λ p h. holds_heading (g.K.Links.shown c.args.self.now.links.now) _ c.args.self.now.fresh p c.args._level _ h
