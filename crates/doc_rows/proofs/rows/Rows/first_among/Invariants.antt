use Rattle.std.proofs.Common.{◌≡◌, take, string_bytes}
use Rattle.std.specs.Prelude.{option_copied}
use Rattle.std.specs.FinMap as map
use Rattle.doc_rows.specs.Looks.{first_from}
use Rattle.doc_rows.specs.Rows.{paths_among}
use Rattle.doc_rows.proofs.rows.Rows.first_among.Given as goal

-- that of the rows so far
abbrev pub invariant-loop-row : goal.invariant-loop-row
invariant-loop-row l = option_copied l.best
    ≡ first_from (string_bytes l.from) (map.keys (paths_among l.self (take l.row-index l.rows)))
