use Rattle.std.proofs.Common.{codes, subst}
use Rattle.doc_rules.specs.PlainTexts.{text_in}
use Rattle.doc_html.specs.ProgressSteps.{Goes, text_met}
use Rattle.doc_html.proofs.TableSteps.{over_begins, over_goes_on, over_ends}
use Rattle.doc_html.proofs.tables.meet_cells.Goals as goal

pub cells-init : goal.cells-init
cells-init g c = λ definitions is. over_begins g.W.Writer.holds c.args.source.now.entities.now definitions (codes "th") c.args.writer.now _

pub cells-preserved : goal.cells-preserved
cells-preserved g c = λ definitions is.
    over_goes_on g.W.Writer.holds c.args.source.now.entities.now definitions (codes "th") c.args.writer.now c.cells.writer
    c.meet_cell.new.writer _ _ _ _ c.in-Some.ensures.value (c.cells.invariant definitions is)
    (subst (λ t. Goes g.W.Writer.holds c.cells.writer c.meet_cell.new.writer
    (text_met (text_in c.args.source.now.entities.now definitions t))) c.in_ok-text.ensures (c.in_ok-meet_cell.ensures definitions is))

pub returns : goal.returns
returns g c = λ definitions is.
    over_ends g.W.Writer.holds c.args.source.now.entities.now definitions (codes "th") c.args.writer.now c.cells.writer _ _
    c.in_default.ensures.value (c.cells.invariant definitions is)
