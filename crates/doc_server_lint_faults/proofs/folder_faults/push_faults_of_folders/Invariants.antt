use Rattle.std.proofs.Common.{◌≡◌, ◌+◌, ◌++◌, drop}
use Rattle.toml.specs.View.{items_view}
use Rattle.doc_server_lint_faults.specs.TableFaults.{faults_of_folders}
use Rattle.doc_server_lint_faults.proofs.folder_faults.push_faults_of_folders.Given as goal

-- what was found so far, and the faults of the folders that are left
abbrev pub invariant-loop-index : goal.invariant-loop-index
invariant-loop-index l =
    l.found.items ++ faults_of_folders (l.index + 1) (items_view (drop l.index l.rows))
    ≡ l.initial.found.items ++ faults_of_folders 1 (items_view l.rows)
