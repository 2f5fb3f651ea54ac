use Rattle.std.proofs.Common.{◌≡◌, take, string_bytes}
use Rattle.std.specs.Prelude.{option_copied}
use Rattle.std.specs.FinMap as map
use Rattle.doc_rows.specs.Looks.{last_before}
use Rattle.doc_rows.specs.Rows.{paths_among}
use Rattle.doc_rows.proofs.rows.Rows.last_among.Given as goal

-- that of the rows so far
abbrev pub invariant-loop-row : goal.invariant-loop-row
invariant-loop-row l = option_copied l.best
    ≡ last_before (string_bytes l.before) (map.keys (paths_among l.self (take l.row-index l.rows)))
