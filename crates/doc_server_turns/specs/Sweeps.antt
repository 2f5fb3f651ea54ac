-- What a sweep makes of clients. All of this is this project's choice.
use Rattle.std.specs.Prelude.{◌≡◌, ℕ, List, Bool, true, false, option_map, if◌then◌else◌}
use Rattle.std.specs.FinMap as map
use Rattle.doc_server_turns.specs.Parts.{StayBut, times_among}
use Rattle.doc_server_turns.specs.Times.{is_over, later}
use Rattle.doc_server_turns.specs.Wirings.{Peer, Table}
use Rattle.doc_server_turns.specs.declared.limits.Limits.{Limits}

-- a client that is let go
abbrev pub ended : Peer → Peer
ended p = record p { is_open = false; is_over = true; reads = false }

-- a client one sweep later: memory that was lacking is asked for again
abbrev pub fed : Peer → Peer
fed p = record p { starves = false; lacks = false; times = later p.times }

-- and it is let go where one of its times is over
abbrev pub swept : Limits → Bool → Peer → Peer
swept limits is_crowded p = if is_over limits is_crowded (later p.times) then ended (fed p) else fed p

-- Each client whose number stands once among these is swept, and whoever's doesn't is as before.
pub record Sweeps (limits : Limits) (is_crowded : Bool) (numbers : List ℕ) (t u : Table) : Type 0 where
  pub each : (k : ℕ) → times_among numbers k ≡ 1 → map.get u k ≡ option_map (swept limits is_crowded) (map.get t k)
  pub others : StayBut numbers t u
