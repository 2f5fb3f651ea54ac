-- A file in memory.
use Rattle.std.specs.Prelude.{ℕ, List, Option, Some}
use Rattle.doc_server_follow.specs.declared.memory_file.MemoryFile.{MemoryFile}

-- what it holds
abbrev pub memory_bytes : MemoryFile → List ℕ
memory_bytes file = file.bytes

abbrev pub memory_seen : MemoryFile → Option (List ℕ)
memory_seen file = Some (memory_bytes file)
