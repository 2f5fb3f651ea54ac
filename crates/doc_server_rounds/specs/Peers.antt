-- What contracts see of a link.
use Rattle.std.specs.Prelude.{◌≡◌, ◌≤◌, ℕ, List, Bool, true, false, Option, length, ⊤}
use Rattle.doc_server_streams.specs.Moves.{IsDry}
use Rattle.doc_server_rounds.specs.declared.phase.Phase.{Phase}
use Rattle.doc_server_rounds.specs.declared.phase.Phase.TheVariants as phases

-- the number of its connection, whether it is open, the bytes that were read and aren't pushed yet; and of its stream, what reads will
-- give, what was written, how many calls failed, and whether a call may move no byte although there are some
pub record Peer : Type 0 where
  pub id : ℕ
  pub is_open : Bool
  pub pending : List ℕ
  pub unread : Option (List ℕ)
  pub written : Option (List ℕ)
  pub failed : ℕ
  pub stalls : Bool

abbrev pub closed : Peer → Peer
closed p = record p { is_open = false }

-- ---- a link's phase

abbrev pub is_open_in : Phase → Bool
is_open_in phases.Closed = false
is_open_in phase = true

-- what a phase says of the stream: none of its calls failed, and where the link ends, its input did
abbrev pub Suits : Phase → Option (List ℕ) → Bool → ℕ → Type 0
Suits phases.Closed unread stalls failed = ⊤
Suits phases.Ends unread stalls failed = (failed ≡ 0) × IsDry unread stalls
Suits phase unread stalls failed = failed ≡ 0

-- how many bytes are read at once; this project's choice
abbrev pub piece_room : ℕ
piece_room = 16384

-- the room of a link, and how much of it is pending
pub record HasRoom (piece : List ℕ) (pending : ℕ) : Type 0 where
  pub room : length piece ≡ piece_room
  pub fits : pending ≤ piece_room
