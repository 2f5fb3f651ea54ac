use Rattle.std.proofs.Common.{OnOk, subst, arith}
use Rattle.doc_rules.specs.Html.{characters}
use Rattle.doc_html.specs.ProgressSteps.{Writes}
use Rattle.doc_html.proofs.CutSteps.{cut_text}
use Rattle.doc_html.proofs.inlines.push_cut.Goals as goal

pub returns : goal.returns
returns g c =
    subst (λ t. OnOk c.text.result (Writes g.W.Writer.holds c.args.writer.now c.text.new.self (characters t)))
    (cut_text c.args.text.now c.utf8.text c.requires (λ e. omega (arith, e))) c.text.ensures
