use Rattle.std.proofs.Common.{◌≡◌, ◌++◌, drop}
use Rattle.toml.specs.Data.{get_member}
use Rattle.toml.specs.View.{table_view}
use Rattle.doc_server_lint_faults.specs.declared.place.Place.TheVariants.{Document}
use Rattle.doc_server_lint_faults.specs.TableFaults.{faults_of_keys}
use Rattle.doc_server_lint_faults.specs.Rules.{keys_of}
use Rattle.doc_server_lint_faults.proofs.table_faults.push_faults_of_document.Given as goal

-- what was found so far, and the faults of the keys that are left
abbrev pub invariant-loop-key : goal.invariant-loop-key
invariant-loop-key l =
    l.found.items ++ faults_of_keys Document (keys_of (drop l.key-index l.keys)) (λ key. get_member key (table_view l.document))
    ≡ l.initial.found.items ++ faults_of_keys Document (keys_of l.keys) (λ key. get_member key (table_view l.document))
