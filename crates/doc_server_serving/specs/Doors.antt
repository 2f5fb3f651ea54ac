-- Whether a peer can be accepted.
use Rattle.std.specs.Prelude.{ℕ, Bool, nat_lt, not, ◌&&◌}
use Rattle.doc_server_serving.specs.declared.door.Door.{Door}

-- a peer may wait, nothing is lacking for it, and fewer stand than may
abbrev pub is_open : Door → ℕ → Bool
is_open door standing = door.is_awaited && not door.rests && nat_lt standing door.most
