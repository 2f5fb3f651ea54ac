use Rattle.std.proofs.Common.{subst}
use Rattle.doc_store_readers.specs.Groups.{texts_of}
use Rattle.doc_rows.specs.Rows.{HasLess}
use Rattle.doc_rows.proofs.PlaceLaws.{more_of_item, undone_items}
use Rattle.doc_rows.proofs.rows.Rows.add_to_each.Goals as goal

pub returns-in-Err-clause-err : goal.returns-in-Err-clause-err
returns-in-Err-clause-err c =
    undone_items c.args.self.now c.loop-row.self c.remove_from_each.new.self c.args.path.now c.args.rows.now c.loop-row.row-index
    c.loop-row.invariant
    (subst (λ rows. HasLess rows c.args.path.now (texts_of c.args.rows.now) c.remove_from_each.new.self) c.in-Err.ensures.err
    c.remove_from_each.ensures)

pub loop-row-preserved : goal.loop-row-preserved
loop-row-preserved c =
    more_of_item c.args.self.now c.loop-row.self c.add.new.self c.args.path.now c.args.rows.now c.loop-row.row-index _
    c.loop-row-test.true c.loop-row.invariant c.in_default.ensures.ok
