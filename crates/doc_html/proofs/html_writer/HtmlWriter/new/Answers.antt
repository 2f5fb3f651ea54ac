use Rattle.doc_html.proofs.WrittenSteps.{holds_nothing}
use Rattle.doc_html.proofs.html_writer.HtmlWriter.new.Goals as goal

pub returns : goal.returns
returns g c = holds_nothing (g.K.Links.shown c.args.links.now) _ c.in_ok-out.ensures.bytes
