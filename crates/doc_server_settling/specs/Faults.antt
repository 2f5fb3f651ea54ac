-- Why a turn ends a server, where its record isn't written.
use Rattle.doc_server_journal.specs.declared.fault.AppendError.{AppendError}
use Rattle.doc_server_journal.specs.declared.fault.AppendError.TheVariants as appends
use Rattle.doc_server_settling.specs.declared.fault.TurnFault.{TurnFault}
use Rattle.doc_server_settling.specs.declared.fault.TurnFault.TheVariants.{Memory, CannotWrite}

abbrev pub of_append : AppendError → TurnFault
of_append appends.Memory = Memory
of_append other = CannotWrite
