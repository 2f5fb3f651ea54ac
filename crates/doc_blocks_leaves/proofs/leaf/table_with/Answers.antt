use Rattle.std.proofs.Common.{◌∙◌, ◌∷◌, ap, chars, is_some}
use Rattle.doc_rules.specs.Characters.{Text}
use Rattle.doc_rules.specs.Tables.{table_in, text_lines}
use Rattle.doc_tables.specs.LineSteps.{last_line}
use Rattle.doc_blocks_leaves.proofs.TableSteps.{marked_holds, unmarked_holds, told_is}
use Rattle.doc_blocks_leaves.proofs.leaf.table_with.Goals as goal

pub returns-then-holds : goal.returns-then-holds
returns-then-holds c = λ known.
    let told = told_is c.args.table c.args.lines.now.all c.in_ok-holds.holds c.in_ok-holds.was known in
    marked_holds c.args.lines.now.all _ c.in_ok-holds.holds c.if-holds.true told

pub returns-else-holds : goal.returns-else-holds
returns-else-holds c = λ known.
    let told = told_is c.args.table c.args.lines.now.all c.in_ok-holds.holds c.in_ok-holds.was known in
    unmarked_holds c.args.lines.now.all _ c.in_ok-holds.holds c.begins_behind.result c.if-holds.false told
    (c.begins_behind.ensures
    ∙ ap (λ (t : Text). is_some (table_in (last_line t ∷ text_lines (chars c.after_indent.result.now)))) c.all.ensures
    ∙ ap (λ (t : Text). is_some (table_in (last_line c.args.lines.now.all ∷ text_lines t))) c.after_indent.ensures)
