use Rattle.std.proofs.Common.{rules, ◌≡◌, true, false}
use Rattle.doc_blocks_leaves.proofs.TableSteps.{reads_none, table_is_of}
use Rattle.doc_blocks_leaves.proofs.paragraph.table_of.Goals as goal

pub returns-then-not-tables : goal.returns-then-not-tables
returns-then-not-tables c =
    let off : c.args.entities.now.tables ≡ false = search rules in
    reads_none _ _ off

pub returns : goal.returns
returns c =
    let on : c.args.entities.now.tables ≡ true = search rules in
    table_is_of _ _ _ on c.first_table.ensures
