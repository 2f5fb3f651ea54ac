use Rattle.std.proofs.Common.{◌≡◌, drop}
use Rattle.doc_rows.specs.Rows.{is_among, rows_of}
use Rattle.doc_rows.proofs.placing.is_row_of.Given as goal

-- of those that are left
abbrev pub invariant-loop-name : goal.invariant-loop-name
invariant-loop-name l = is_among l.row (rows_of l.names) ≡ is_among l.row (drop l.name-index l.names)
