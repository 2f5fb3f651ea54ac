use Rattle.std.proofs.Common.{subst, sym}
use Rattle.doc_rules.specs.Html.{characters, align_attribute}
use Rattle.doc_html.specs.ProgressSteps.{Writes}
use Rattle.doc_html.proofs.TellingSteps.{nothing_said}
use Rattle.doc_html.proofs.tables.push_alignment.Goals as goal

pub returns-in-Default : goal.returns-in-Default
unfolding align_attribute
returns-in-Default g c =
    subst (λ column. Writes g.W.Writer.holds c.args.writer.now c.args.writer.now (characters (align_attribute column)))
    (sym c.in-Default.is) (nothing_said g.W.Writer.holds c.args.writer.now)
