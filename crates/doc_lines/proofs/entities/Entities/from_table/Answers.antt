use Rattle.std.proofs.Common.{sym, ◌∙◌}
use Rattle.doc_page_parts.specs.Lines.{lines}
use Rattle.doc_rules.specs.Entities.{built_in}
use Rattle.doc_lines.specs.Tables.{bad_line, twice_line}
use Rattle.doc_lines.proofs.AnswerLaws.{bad_answer}
use Rattle.doc_lines.proofs.entities.Entities.from_table.Goals as goal

pub returns-in-Some : goal.returns-in-Some
returns-in-Some c = bad_answer (lines c.args.text.now) (bad_line 1 (lines c.args.text.now)) (twice_line built_in 1 (lines c.args.text.now))
    c.in-Some.line (sym c.bad_line.ensures ∙ c.in-Some.is)
