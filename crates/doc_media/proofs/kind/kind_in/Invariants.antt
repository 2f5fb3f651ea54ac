use Rattle.std.proofs.Common.{◌≡◌, drop}
use Rattle.doc_media.specs.Kinds.{kind_in, rows_of}
use Rattle.doc_media.proofs.kind.kind_in.Given as goal

-- none of the rows so far names the kind
abbrev pub invariant-loop-name : goal.invariant-loop-name
invariant-loop-name l = kind_in (rows_of l.rows) l.extension ≡ kind_in (rows_of (drop l.name-index l.rows)) l.extension
