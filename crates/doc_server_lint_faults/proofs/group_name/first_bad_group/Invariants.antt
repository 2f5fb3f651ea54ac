use Rattle.std.proofs.Common.{◌≡◌, drop, not}
use Rattle.std.specs.List.{find}
use Rattle.doc_store_readers.specs.Groups.{is_group, texts_of}
use Rattle.doc_server_lint_faults.proofs.group_name.first_bad_group.Given as goal

abbrev pub invariant-loop-name : goal.invariant-loop-name
invariant-loop-name l =
    find (λ name. not (is_group name)) (texts_of l.names) ≡ find (λ name. not (is_group name)) (texts_of (drop l.name-index l.names))
