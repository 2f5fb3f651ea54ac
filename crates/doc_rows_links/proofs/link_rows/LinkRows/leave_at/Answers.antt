use Rattle.std.specs.Prelude.{option_copied}
use Rattle.doc_rows.specs.Rows.{rows_beside, rows_of_some}
use Rattle.doc_rows_links.proofs.PlaceSteps.{emptied}
use Rattle.doc_rows_links.proofs.link_rows.LinkRows.leave_at.Goals as goal

pub returns-then-leave_in : goal.returns-then-leave_in
returns-then-leave_in c =
    emptied c.args.self.now c.args.target.now c.args.path.now
    (rows_beside (rows_of_some (option_copied c.args.groups)) (rows_of_some (option_copied c.args.others))) c.leave_in.new.self
    c.remove_rows.new.self c.leave_in.ensures.less (c.leave_in.ensures.none c.if-leave_in.true) c.remove_rows.ensures

pub returns-else-leave_in : goal.returns-else-leave_in
returns-else-leave_in c = c.leave_in.ensures.less
