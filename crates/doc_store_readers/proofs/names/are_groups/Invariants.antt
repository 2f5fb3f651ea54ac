use Rattle.std.proofs.Common.{◌≡◌, map, drop}
use Rattle.std.specs.List.{list_all}
use Rattle.doc_store_readers.specs.Groups.{is_group}
use Rattle.doc_store_readers.proofs.names.are_groups.Given as goal

abbrev pub invariant-loop-name : goal.invariant-loop-name
invariant-loop-name l = list_all is_group (map (λ name. name.now) l.names)
    ≡ list_all is_group (map (λ name. name.now) (drop l.name-index l.names))
