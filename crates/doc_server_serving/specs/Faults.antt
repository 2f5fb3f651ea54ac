-- What a server that ends says of a turn's fault.
use Rattle.doc_server_serving.specs.declared.fault.ServeFault.{ServeFault}
use Rattle.doc_server_serving.specs.declared.fault.ServeFault.TheVariants as faults
use Rattle.doc_server_settling.specs.declared.fault.TurnFault.{TurnFault}
use Rattle.doc_server_settling.specs.declared.fault.TurnFault.TheVariants as turn_faults

abbrev pub of_turn : TurnFault → ServeFault
of_turn turn_faults.Memory = faults.Memory
of_turn turn_faults.CannotWrite = faults.CannotWrite
