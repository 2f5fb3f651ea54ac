use Rattle.std.proofs.Common.{◌≡◌, map, take}
use Rattle.doc_store_readers.proofs.groups.Groups.copies_of.Given as goal

abbrev pub invariant-loop-name : goal.invariant-loop-name
invariant-loop-name l = l.copies.items ≡ map (λ name. name.now) (take l.name-index l.names)
