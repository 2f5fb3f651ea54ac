use Rattle.std.proofs.Common.{take}
use Rattle.doc_store_readers.specs.Groups.{texts_of}
use Rattle.doc_rows.specs.Rows.{HasMore}
use Rattle.doc_rows.proofs.rows.Rows.add_to_each.Given as goal

-- in those so far
abbrev pub invariant-loop-row : goal.invariant-loop-row
invariant-loop-row l = HasMore l.fn.self l.path (texts_of (take l.row-index l.rows)) l.self
