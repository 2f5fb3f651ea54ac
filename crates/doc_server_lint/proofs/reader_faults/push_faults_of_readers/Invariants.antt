use Rattle.std.proofs.Common.{◌≡◌, ◌+◌, ◌++◌, drop}
use Rattle.toml.specs.View.{items_view}
use Rattle.doc_server_lint.specs.Faults.{faults_of_readers, nobody_known}
use Rattle.doc_server_lint.proofs.reader_faults.push_faults_of_readers.Given as goal

-- what was found so far, and the faults of the readers that are left
abbrev pub invariant-loop-index : goal.invariant-loop-index
invariant-loop-index l =
    l.found.items ++ faults_of_readers l.known (l.index + 1) (items_view (drop l.index l.rows))
    ≡ l.initial.found.items ++ faults_of_readers nobody_known 1 (items_view l.rows)
