-- What stops the command `listen` where the server doesn't run any more.
use Rattle.doc_server_serving.specs.declared.fault.ServeFault.{ServeFault}
use Rattle.doc_server_serving.specs.declared.fault.ServeFault.TheVariants as serve_faults
use Rattle.doc_server_streams.specs.declared.fault.Fault.TheVariants as faults
use Rattle.docs_server.specs.declared.listen_fault.ListenFault.{ListenFault}
use Rattle.docs_server.specs.declared.listen_fault.ListenFault.TheVariants as stops

-- where the server doesn't run
abbrev pub stop_of : ServeFault → ListenFault
stop_of serve_faults.Socket = stops.Command faults.Socket
stop_of serve_faults.CannotWrite = stops.Command faults.CannotWrite
stop_of serve_faults.Memory = stops.Command faults.Memory
stop_of (serve_faults.Follow fault) = stops.Follow fault
