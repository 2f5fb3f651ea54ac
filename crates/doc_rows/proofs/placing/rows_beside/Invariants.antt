use Rattle.std.proofs.Common.{◌≡◌, ◌++◌, drop}
use Rattle.doc_store_readers.specs.Groups.{texts_of}
use Rattle.doc_rows.specs.Rows.{rows_beside}
use Rattle.doc_rows.proofs.placing.rows_beside.Given as goal

-- those so far, and those of the rows that are left
abbrev pub invariant-loop-row : goal.invariant-loop-row
invariant-loop-row l = texts_of l.left.items ++ rows_beside (texts_of (drop l.row-index l.rows)) (texts_of l.others)
    ≡ rows_beside (texts_of l.rows) (texts_of l.others)
