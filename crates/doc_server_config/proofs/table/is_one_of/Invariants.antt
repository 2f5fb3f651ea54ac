use Rattle.std.proofs.Common.{◌≡◌, drop}
use Rattle.doc_store_readers.specs.Groups.{texts_of}
use Rattle.doc_server_config.specs.Keys.{is_one_of}
use Rattle.doc_server_config.proofs.table.is_one_of.Given as goal

abbrev pub invariant-loop-one : goal.invariant-loop-one
invariant-loop-one l = is_one_of (texts_of l.keys) l.key ≡ is_one_of (texts_of (drop l.one-index l.keys)) l.key
