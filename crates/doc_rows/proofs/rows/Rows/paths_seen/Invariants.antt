use Rattle.std.specs.Prelude.{string_bytes}
use Rattle.doc_rows.specs.Rows.{IsRows}
use Rattle.doc_rows.proofs.StepLaws.{AreSoFar}
use Rattle.doc_rows.proofs.rows.Rows.paths_seen.Given as goal
use Rattle.doc_store_readers.specs.Sites.{Site}

-- those that are found, and those that are left
abbrev pub invariant-loop-turn : goal.invariant-loop-turn
invariant-loop-turn l = (site : Site) → IsRows site.pages l.self → AreSoFar site l.reader l.from l.found.items (string_bytes l.start)
