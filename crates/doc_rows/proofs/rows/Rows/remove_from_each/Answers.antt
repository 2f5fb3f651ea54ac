use Rattle.doc_rows.proofs.PlaceLaws.{less_of_item}
use Rattle.doc_rows.proofs.rows.Rows.remove_from_each.Goals as goal

pub loop-row-preserved : goal.loop-row-preserved
loop-row-preserved c =
    less_of_item c.args.self.now c.loop-row.self c.remove.new.self c.args.path.now c.args.rows.now c.loop-row.row-index _
    c.loop-row-test.true c.loop-row.invariant c.remove.ensures
