use Rattle.std.proofs.Common.{◌≡◌, ◌++◌, map, take, drop}
use Rattle.doc_store_readers.specs.Groups.{with_name}
use Rattle.doc_store_readers.proofs.names.place_of.Given as goal

abbrev pub invariant-loop-place : goal.invariant-loop-place
invariant-loop-place l =
    with_name l.name (map (λ name. name.now) l.names) ≡ map (λ name. name.now) (take l.place l.names)
    ++ with_name l.name (map (λ name. name.now) (drop l.place l.names))
