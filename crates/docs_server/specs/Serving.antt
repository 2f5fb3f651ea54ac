-- What stops the command `serve`.
use Rattle.doc_server_streams.specs.declared.fault.Fault.{Fault}
use Rattle.doc_server_streams.specs.declared.fault.Fault.TheVariants as faults
use Rattle.doc_server_rounds.specs.declared.fault.ServeFault.{ServeFault}
use Rattle.doc_server_rounds.specs.declared.fault.ServeFault.TheVariants as serve_faults

-- where peers are not served
abbrev pub fault_of : ServeFault → Fault
fault_of serve_faults.Accept = faults.Socket
fault_of serve_faults.NoIds = faults.Refused
fault_of serve_faults.Memory = faults.Memory
