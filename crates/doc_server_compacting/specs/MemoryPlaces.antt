-- What contracts see of a place in memory.
use Rattle.std.specs.Prelude.{ℕ, Bool, List}
use Rattle.doc_server_compacting.specs.declared.memory_place.MemoryPlace.{MemoryPlace}

-- what the file of its name holds
abbrev pub named_bytes : MemoryPlace → List ℕ
named_bytes place = place.bytes

-- whether a file stands beside
abbrev pub stands_beside : MemoryPlace → Bool
stands_beside place = place.has_beside
