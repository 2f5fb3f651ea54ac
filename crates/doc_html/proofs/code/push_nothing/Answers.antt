use Rattle.doc_html.proofs.WriterSteps.{no_escapes}
use Rattle.doc_html.proofs.code.push_nothing.Goals as goal

pub returns : goal.returns
returns g c = no_escapes g.W.Writer.holds c.args._writer.now
