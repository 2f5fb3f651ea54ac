use Rattle.std.proofs.Common.{[]}
use Rattle.doc_rows.specs.Rows.{rows_beside, rows_of}
use Rattle.doc_rows.proofs.PlaceLaws.{all_beside, less_by, lifted}
use Rattle.doc_rows.proofs.rows.Rows.lift.Goals as goal

pub returns : goal.returns
returns c = λ pages stood are.
    lifted pages c.args.path.now c.args.groups.now c.args.self.now c.leave_beside.new.self
    (less_by c.args.self.now c.leave_beside.new.self c.args.path.now (rows_beside (rows_of c.args.groups.now) [])
    (rows_of c.args.groups.now) (all_beside (rows_of c.args.groups.now)) c.leave_beside.ensures) stood are
