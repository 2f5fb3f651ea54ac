use Rattle.std.proofs.Common.{◌≡◌, drop}
use Rattle.doc_store_readers.specs.Groups.{texts_of}
use Rattle.doc_server_config.specs.MediaNames.{are_extensions}
use Rattle.doc_server_config.proofs.media_names.are_extensions.Given as goal

abbrev pub invariant-loop-name : goal.invariant-loop-name
invariant-loop-name l = are_extensions (texts_of l.names) ≡ are_extensions (texts_of (drop l.name-index l.names))
