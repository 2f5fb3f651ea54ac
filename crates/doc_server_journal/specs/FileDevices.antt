-- What contracts see of a file of the system as a device.
use Rattle.std.specs.Prelude.{Bool}
use Rattle.doc_server_journal.specs.declared.file_device.FileDevice.{FileDevice}

-- whether a call of it has failed
abbrev pub has_failed : FileDevice → Bool
has_failed d = d.failed
