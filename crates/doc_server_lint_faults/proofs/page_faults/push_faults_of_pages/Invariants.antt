use Rattle.std.proofs.Common.{◌≡◌, ◌+◌, ◌++◌, drop}
use Rattle.toml.specs.View.{items_view}
use Rattle.doc_server_lint_faults.specs.TableFaults.{faults_of_pages}
use Rattle.doc_server_lint_faults.proofs.page_faults.push_faults_of_pages.Given as goal

-- what was found so far, and the faults of the pages that are left
abbrev pub invariant-loop-index : goal.invariant-loop-index
invariant-loop-index l =
    l.found.items ++ faults_of_pages (l.index + 1) (items_view (drop l.index l.rows))
    ≡ l.initial.found.items ++ faults_of_pages 1 (items_view l.rows)
