use Rattle.doc_server.proofs.HtmlSteps.{html_is}
use Rattle.doc_server.proofs.rendering.html_of.Goals as goal

pub returns : goal.returns
returns c = html_is c.into_inner.result _ _ c.args.text.now c.built_in.ensures c.into_inner.ensures c.in_ok-html.ensures
