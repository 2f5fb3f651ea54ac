use Rattle.std.proofs.Common.{take}
use Rattle.doc_rows.specs.Rows.{HasLess}
use Rattle.doc_rows.proofs.rows.Rows.remove_from_groups.Given as goal

-- out of those so far
abbrev pub invariant-loop-name : goal.invariant-loop-name
invariant-loop-name l = HasLess l.fn.self l.path (take l.name-index l.names) l.self
