use Rattle.doc_rows.proofs.PlaceLaws.{less_of_name}
use Rattle.doc_rows.proofs.rows.Rows.remove_from_groups.Goals as goal

pub loop-name-preserved : goal.loop-name-preserved
loop-name-preserved c =
    less_of_name c.args.self.now c.loop-name.self c.remove.new.self c.args.path.now c.args.names.now c.loop-name.name-index
    c.name-item.result c.get.result.now c.loop-name-test.true c.name-item.is c.get.ensures c.loop-name.invariant c.remove.ensures
