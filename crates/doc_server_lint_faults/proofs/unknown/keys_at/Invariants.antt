use Rattle.std.proofs.Common.{◌≡◌, ◌++◌, drop}
use Rattle.doc_store_readers.specs.Groups.{texts_of}
use Rattle.doc_server_lint_faults.specs.Rules.{keys_of, names_of}
use Rattle.doc_server_lint_faults.specs.Unknown.{keys_at}
use Rattle.doc_server_lint_faults.proofs.unknown.keys_at.Given as goal

-- the keys so far, and those among the known ones that are left
abbrev pub invariant-loop-name : goal.invariant-loop-name
invariant-loop-name l =
    texts_of l.keys.items ++ keys_at l.far (names_of (keys_of (drop l.name-index l.known))) l.key
    ≡ keys_at l.far (names_of (keys_of l.known)) l.key
