-- Why the peers of a listener were not served.
use Rattle.std.specs.Prelude.{◌<◌, ◌≤◌, ⊤, ℕ}
use Rattle.doc_hub.specs.Worlds.{World, last_id}
use Rattle.doc_hub_events.specs.declared.refusal.ConnectError.{ConnectError}
use Rattle.doc_hub_events.specs.declared.refusal.ConnectError.TheVariants as connect_errors
use Rattle.doc_server_rounds.specs.declared.fault.ServeFault.{ServeFault}
use Rattle.doc_server_rounds.specs.declared.fault.ServeFault.TheVariants as faults

-- what a refused connect is here
abbrev pub fault_of : ConnectError → ServeFault
fault_of connect_errors.NoIds = faults.NoIds
fault_of connect_errors.Memory = faults.Memory

-- why one peer more wasn't accepted in this world: of a listener nothing is known
abbrev pub IsRefusal : World → ServeFault → Type 0
IsRefusal w faults.NoIds = last_id ≤ w.given
IsRefusal w other = ⊤

-- why no more than so many of all were accepted, or no room for the round was found, in the world that stands then
abbrev pub Explains : World → ℕ → ℕ → ServeFault → Type 0
Explains v made count faults.Accept = made < count
Explains v made count faults.NoIds = (made < count) × (last_id ≤ v.given)
Explains v made count faults.Memory = ⊤
