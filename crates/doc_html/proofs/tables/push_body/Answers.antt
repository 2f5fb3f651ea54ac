use Rattle.std.proofs.Common.{ap, sym, subst, chars}
use Rattle.doc_lines.specs.RestSteps.{rest_of}
use Rattle.doc_blocks_starts.specs.Tables.{lines_in}
use Rattle.doc_html.specs.ProgressSteps.{Goes}
use Rattle.doc_html.specs.TableSteps.{body_told, cut_rows}
use Rattle.doc_html.proofs.TableSteps.{no_body, body_goes}
use Rattle.doc_html.proofs.tables.push_body.Goals as goal

pub returns-in_default : goal.returns-in_default
returns-in_default g c = λ definitions is.
    no_body g.W.Writer.holds c.args.source.now.entities.now definitions c.args.columns.now c.args.writer.now
    (lines_in (rest_of c.args.rows)) (ap (λ rows. lines_in (rest_of rows)) c.in_default.is)

pub returns : goal.returns
returns g c = λ definitions is.
    subst (λ rows. Goes g.W.Writer.holds c.args.writer.now c.markup-2.new.writer (body_told c.args.source.now.entities.now definitions
    c.args.columns.now (cut_rows c.args.columns.now (lines_in (rest_of rows))))) (sym c.in-Some.is)
    (body_goes g.W.Writer.holds c.args.source.now.entities.now definitions c.args.columns.now c.args.writer.now c.markup.new.writer
    c.push_rows.new.writer c.markup-2.new.writer (chars c.in-Some.rows.now) c.in_ok-markup.ensures
    (c.in_ok-push_rows.ensures definitions is) c.in_ok-markup-2.ensures)
