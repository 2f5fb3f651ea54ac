use Rattle.std.proofs.Common.{◌≡◌, take}
use Rattle.doc_store_readers.proofs.groups.Groups.copy.Given as goal

abbrev pub invariant-loop-name : goal.invariant-loop-name
invariant-loop-name l = l.names.items ≡ take l.name-index l.name-items
