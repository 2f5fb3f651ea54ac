use Rattle.std.proofs.Common.{take}
use Rattle.doc_rows.specs.Rows.{HasLess, rows_beside, rows_of}
use Rattle.doc_rows.proofs.rows.Rows.leave.Given as goal

-- out of those so far
abbrev pub invariant-loop-name : goal.invariant-loop-name
invariant-loop-name l = HasLess l.fn.self l.path (rows_beside (take l.name-index l.names) (rows_of l.others)) l.self
