use Rattle.std.proofs.Common.{chars}
use Rattle.doc_html.proofs.WrittenSteps.{holds_image}
use Rattle.doc_html.proofs.html_writer.HtmlWriterWriter.image.Goals as goal

pub returns : goal.returns
returns g c = λ p h. holds_image (g.K.Links.shown c.args.self.now.links.now) _ c.args.self.now.fresh p (chars c.args._dest.now) h
