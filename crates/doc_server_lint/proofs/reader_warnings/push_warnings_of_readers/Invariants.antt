use Rattle.std.proofs.Common.{◌≡◌, ◌+◌, ◌++◌, drop}
use Rattle.toml.specs.View.{items_view}
use Rattle.doc_server_lint.specs.Warnings.{warnings_of_readers}
use Rattle.doc_server_lint.proofs.reader_warnings.push_warnings_of_readers.Given as goal

-- what was found so far, and what is told of the readers that are left
abbrev pub invariant-loop-index : goal.invariant-loop-index
invariant-loop-index l =
    l.found.items ++ warnings_of_readers (l.index + 1) (items_view (drop l.index l.rows))
    ≡ l.initial.found.items ++ warnings_of_readers 1 (items_view l.rows)
