-- What contracts see of a stream over memory.
use Rattle.std.specs.Prelude.{ℕ, List, drop, ◌==◌, Bool, Option, Some}
use Rattle.doc_server_streams.specs.declared.memory_stream.MemoryStream.{MemoryStream}

-- the bytes that are left to read
abbrev pub unread_in : MemoryStream → Option (List ℕ)
unread_in s = Some (drop s.at s.input)

-- the bytes that were written
abbrev pub written_to : MemoryStream → Option (List ℕ)
written_to s = Some s.output.items

-- how many calls failed
abbrev pub failures_of : MemoryStream → ℕ
failures_of s = s.failures

-- whether its piece has no byte
abbrev pub is_stalled : MemoryStream → Bool
is_stalled s = s.piece == 0
