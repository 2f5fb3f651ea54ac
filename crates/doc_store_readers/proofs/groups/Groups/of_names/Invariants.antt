use Rattle.std.proofs.Common.{◌≡◌, [], map, drop}
use Rattle.doc_store_readers.specs.Groups.{with_names}
use Rattle.doc_store_readers.proofs.groups.Groups.of_names.Given as goal

abbrev pub invariant-loop-name : goal.invariant-loop-name
invariant-loop-name l =
    with_names [] (map (λ name. name.now) l.names) ≡ with_names (map (λ name. name.now) l.different.items)
    (map (λ name. name.now) (drop l.name-index l.names))
