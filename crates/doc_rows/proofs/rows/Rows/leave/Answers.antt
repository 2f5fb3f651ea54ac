use Rattle.doc_rows.specs.Rows.{rows_of}
use Rattle.doc_rows.proofs.PlaceLaws.{less_of_next}
use Rattle.doc_rows.proofs.rows.Rows.leave.Goals as goal

pub loop-name-preserved : goal.loop-name-preserved
loop-name-preserved c =
    less_of_next c.args.self.now c.loop-name.self c.leave_unless.new.self c.args.path.now c.args.names.now (rows_of c.args.others.now)
    c.loop-name.name-index c.name-item.result c.get.result.now c.loop-name-test.true c.name-item.is c.get.ensures c.loop-name.invariant
    c.leave_unless.ensures
