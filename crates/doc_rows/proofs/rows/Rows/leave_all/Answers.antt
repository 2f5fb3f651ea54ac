use Rattle.doc_rows.proofs.PlaceLaws.{less_of_all}
use Rattle.doc_rows.proofs.rows.Rows.leave_all.Goals as goal

pub returns : goal.returns
returns c =
    less_of_all c.args.self.now c.remove.new.self c.remove_from_groups.new.self c.args.path.now c.args.names.now c.remove.ensures
    c.remove_from_groups.ensures
