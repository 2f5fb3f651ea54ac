use Rattle.std.proofs.Common.{◌≡◌, drop}
use Rattle.doc_store_readers.specs.Groups.{texts_of}
use Rattle.doc_rows.specs.Rows.{is_among}
use Rattle.doc_rows.proofs.placing.is_among.Given as goal

-- of those that are left
abbrev pub invariant-loop-other : goal.invariant-loop-other
invariant-loop-other l = is_among l.row (texts_of l.rows) ≡ is_among l.row (texts_of (drop l.other-index l.rows))
