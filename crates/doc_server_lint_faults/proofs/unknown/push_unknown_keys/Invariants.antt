use Rattle.std.proofs.Common.{◌≡◌, ◌++◌, map, string_bytes}
use Rattle.std.specs.List.{flat_map}
use Rattle.toml.specs.View.{table_view}
use Rattle.doc_server_lint_faults.specs.Rules.{keys_of, names_of}
use Rattle.doc_server_lint_faults.specs.Unknown.{unknown_key, unknown_keys}
use Rattle.doc_server_lint_faults.proofs.unknown.push_unknown_keys.Given as goal

-- what was found so far, and what is told of the keys that are left
abbrev pub invariant-loop-key : goal.invariant-loop-key
invariant-loop-key l =
    l.found.items ++ flat_map (unknown_key l.is_fault l.place (names_of (keys_of l.known))) (map string_bytes l.key-iterator)
    ≡ l.initial.found.items ++ unknown_keys l.is_fault l.place (names_of (keys_of l.known)) (table_view l.table)
