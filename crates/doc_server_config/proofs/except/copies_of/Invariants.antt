use Rattle.std.proofs.Common.{◌≡◌, take}
use Rattle.doc_store_readers.specs.Groups.{texts_of}
use Rattle.doc_server_config.proofs.except.copies_of.Given as goal

abbrev pub invariant-loop-name : goal.invariant-loop-name
invariant-loop-name l = l.copies.items ≡ texts_of (take l.name-index l.names)
