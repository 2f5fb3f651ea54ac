-- The texts of an open journal, read anew.
use Rattle.std.specs.Prelude.{ℕ, List, Bool, true, false, Result, Err}
use Rattle.doc_server_journal.specs.declared.fault.LoadError.{LoadError}
use Rattle.doc_server_journal.specs.declared.fault.LoadError.TheVariants as loads
use Rattle.doc_server_journal.specs.declared.journal.Journal.{Journal}
use Rattle.doc_server_journal_records.specs.declared.read_error.ReadError.{ReadError}
use Rattle.doc_server_journal_records.specs.declared.read_error.ReadError.TheVariants as reads
use Rattle.doc_server_reload.specs.declared.anew.TextsFault.{TextsFault}
use Rattle.doc_server_reload.specs.declared.anew.TextsFault.TheVariants.{Long, Other, Memory, Failed}

abbrev pub of_load : LoadError → TextsFault
of_load loads.Memory = Memory
of_load loads.Long = Long
of_load loads.Failed = Failed

-- what doesn't read as a journal isn't an open journal's file
abbrev pub of_reading : ReadError → TextsFault
of_reading reads.Memory = Memory
of_reading e = Other

-- whether the device has failed
abbrev pub has_failed : Result (List (List ℕ)) TextsFault → Bool
has_failed (Err Failed) = true
has_failed result = false

-- a journal with another device, and all else the same
abbrev pub moved_to : {D : Type 0} → Journal D → D → Journal D
moved_to journal device = record journal { device = device }
