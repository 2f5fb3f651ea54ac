-- By how much a journal grows. All of this is this project's choice.
use Rattle.std.specs.Prelude.{ℕ, ◌*◌, Option, Some, None, nat_lt, if◌then◌else◌}
use Rattle.doc_server_settling.specs.Reserves.{reserve}

-- how many bytes it grows by at once
abbrev pub slice : ℕ
slice = 1048576

-- by how much it may grow behind a turn: by more where it lacks its reserve
abbrev pub growth_of : Option ℕ → ℕ
growth_of None = slice
growth_of (Some room) = if nat_lt room reserve then 8 * slice else slice
