-- What contracts see of a file of the system that is looked for by its name.
use Rattle.std.specs.Prelude.{Bool, ◌||◌}
use Rattle.docs_server.specs.declared.named_device.NamedDevice.{NamedDevice}
use Rattle.doc_server_journal.specs.FileDevices.{has_failed as has_file_failed}

-- whether a call has failed, or the name was lost before one
abbrev pub has_failed : {P : Type 0} → NamedDevice P → Bool
has_failed d = has_file_failed d.device || d.is_moved
