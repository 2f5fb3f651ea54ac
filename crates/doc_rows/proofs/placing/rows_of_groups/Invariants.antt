use Rattle.std.proofs.Common.{◌≡◌, take}
use Rattle.doc_store_readers.specs.Groups.{texts_of}
use Rattle.doc_rows.specs.Rows.{rows_of}
use Rattle.doc_rows.proofs.placing.rows_of_groups.Given as goal

abbrev pub invariant-loop-name : goal.invariant-loop-name
invariant-loop-name l = texts_of l.rows.items ≡ rows_of (take l.name-index l.names)
