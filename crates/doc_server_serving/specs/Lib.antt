pub mod Crashing
pub mod Doors
pub mod Faults
pub mod Forces
pub mod Invariants
pub mod Leading
pub mod Rooms
pub mod Hostings
pub mod Hosts
pub mod Unready
-- words of these definitions, for the crates above
pub use Rattle.doc_server_network.specs.Memories
pub use Rattle.doc_server_network.specs.Networks
pub use Rattle.doc_server_network.specs.Saved
pub use Rattle.doc_server_turns.specs.Wirings
