use Rattle.std.proofs.Common.{OnOk, subst}
use Rattle.doc_rules.specs.Html.{characters}
use Rattle.doc_html.specs.ProgressSteps.{Writes}
use Rattle.doc_html.proofs.WriterSteps.{ascii_chars}
use Rattle.doc_html.proofs.writer.markup.Goals as goal

pub returns : goal.returns
returns g c =
    subst (λ t. OnOk c.text.result (Writes g.W.Writer.holds c.args.writer.now c.text.new.self (characters t)))
    (ascii_chars c.args.text.now c.requires) c.text.ensures
