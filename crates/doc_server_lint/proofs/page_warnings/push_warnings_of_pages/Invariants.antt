use Rattle.std.proofs.Common.{◌≡◌, ◌+◌, ◌++◌, drop}
use Rattle.std.specs.FinMap as map
use Rattle.toml.specs.View.{items_view}
use Rattle.doc_server_lint.specs.Warnings.{warnings_of_pages}
use Rattle.doc_server_lint.proofs.page_warnings.push_warnings_of_pages.Given as goal

-- what was found so far, and what is told of the pages that are left
abbrev pub invariant-loop-index : goal.invariant-loop-index
invariant-loop-index l =
    l.found.items ++ warnings_of_pages l.held l.paths (l.index + 1) (items_view (drop l.index l.rows))
    ≡ l.initial.found.items ++ warnings_of_pages l.held map.empty 1 (items_view l.rows)
