use Rattle.std.proofs.Common.{◌≡◌, ◌++◌}
use Rattle.std.specs.Vec.Iter.{into_iter_items}
use Rattle.doc_server_files.proofs.bounded.joined.Given as goal

-- the pages so far, and those that are left
abbrev pub invariant-loop-page : goal.invariant-loop-page
invariant-loop-page l = l.pages.items ++ into_iter_items l.page-iterator ≡ l.fn.rows.items ++ l.fn.others.items
