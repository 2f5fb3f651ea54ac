use Rattle.std.proofs.Common.{◌≡◌, drop}
use Rattle.doc_store_readers.specs.Groups.{texts_of}
use Rattle.doc_server_config.specs.Excepted.{are_folder_names}
use Rattle.doc_server_config.proofs.except.are_folder_names.Given as goal

abbrev pub invariant-loop-name : goal.invariant-loop-name
invariant-loop-name l = are_folder_names (texts_of l.names) ≡ are_folder_names (texts_of (drop l.name-index l.names))
