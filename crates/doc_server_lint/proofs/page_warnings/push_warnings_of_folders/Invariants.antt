use Rattle.std.proofs.Common.{◌≡◌, ◌+◌, ◌++◌, drop}
use Rattle.toml.specs.View.{items_view}
use Rattle.doc_server_lint.specs.Warnings.{warnings_of_folders}
use Rattle.doc_server_lint.proofs.page_warnings.push_warnings_of_folders.Given as goal

-- what was found so far, and what is told of the folders that are left
abbrev pub invariant-loop-index : goal.invariant-loop-index
invariant-loop-index l =
    l.found.items ++ warnings_of_folders l.held (l.index + 1) (items_view (drop l.index l.rows))
    ≡ l.initial.found.items ++ warnings_of_folders l.held 1 (items_view l.rows)
