use Rattle.std.proofs.Common.{◌≡◌, drop}
use Rattle.doc_server_config.specs.Keys.{is_one_of}
use Rattle.doc_server_lint_faults.specs.Rules.{keys_of, names_of}
use Rattle.doc_server_lint_faults.proofs.unknown.is_known.Given as goal

abbrev pub invariant-loop-name : goal.invariant-loop-name
invariant-loop-name l =
    is_one_of (names_of (keys_of l.known)) l.key ≡ is_one_of (names_of (keys_of (drop l.name-index l.known))) l.key
