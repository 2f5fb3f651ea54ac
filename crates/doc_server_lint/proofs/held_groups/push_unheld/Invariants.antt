use Rattle.std.proofs.Common.{◌≡◌, ◌++◌, drop}
use Rattle.std.specs.List.{flat_map}
use Rattle.doc_server_lint.specs.Warnings.{unheld_group}
use Rattle.doc_server_lint.proofs.held_groups.push_unheld.Given as goal

-- what was found so far, and what is told of the names that are left
abbrev pub invariant-loop-name : goal.invariant-loop-name
invariant-loop-name l =
    l.found.items ++ flat_map (unheld_group l.held l.place) (drop l.name-index l.names)
    ≡ l.initial.found.items ++ flat_map (unheld_group l.held l.place) l.names
