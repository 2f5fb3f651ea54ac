use Rattle.std.proofs.Common.{sym, ◌∙◌}
use Rattle.doc_rows.specs.Rows.{rows_of}
use Rattle.doc_rows.proofs.PlaceLaws.{less_unless}
use Rattle.doc_rows.proofs.rows.Rows.leave_unless.Goals as goal

pub returns : goal.returns
returns c =
    less_unless c.args.self.now c.remove.new.self c.args.path.now c.args.row.now (rows_of c.args.names.now)
    (sym c.is_row_of.ensures ∙ c.if-is_row_of.false) c.remove.ensures
