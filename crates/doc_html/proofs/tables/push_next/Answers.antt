use Rattle.std.proofs.Common.{subst}
use Rattle.doc_html.specs.ProgressSteps.{Goes}
use Rattle.doc_html.specs.TableSteps.{cell_told}
use Rattle.doc_html.proofs.TableSteps.{cell_step, empty_step}
use Rattle.doc_html.proofs.tables.push_next.Goals as goal

pub returns-in_default-clause-written : goal.returns-in_default-clause-written
returns-in_default-clause-written g c = λ definitions is.
    empty_step g.W.Writer.holds c.args.source.now.entities.now definitions c.args.name.now c.args.writer.now c.push_empty.new.writer
    c.args.column _ c.in_default.ensures.value c.in_ok-push_empty.ensures

pub returns-clause-written : goal.returns-clause-written
returns-clause-written g c = λ definitions is.
    cell_step g.W.Writer.holds c.args.source.now.entities.now definitions c.args.name.now c.args.writer.now c.push_cell.new.writer
    c.args.column _ _ _ c.in-Some.ensures.value
    (subst (λ t. Goes g.W.Writer.holds c.args.writer.now c.push_cell.new.writer
    (cell_told c.args.source.now.entities.now definitions c.args.name.now c.args.column t)) c.in_ok-text.ensures
    (c.in_ok-push_cell.ensures definitions is))
