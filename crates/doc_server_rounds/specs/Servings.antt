-- What serving the peers of a listener does to a hub: of their streams nothing is known but which failed.
use Rattle.std.specs.Prelude.{◌≡◌, ◌≤◌, ◌⊎◌, ℕ, ◌+◌, List, length, None, All, Contains, if◌then◌else◌, Some}
use Rattle.doc_hub.specs.Replies.{Renders}
use Rattle.doc_hub.specs.Runs.{Happened, Runs}
use Rattle.doc_hub.specs.StepLaws.{connection}
use Rattle.doc_hub.specs.Worlds.{World}
use Rattle.doc_hub_events.specs.declared.event.Event.TheVariants as events
use Rattle.doc_server_rounds.specs.Peers.{Peer}
use Rattle.doc_server_rounds.specs.Rounds.{ServesAll, AreClosed, fault_places, ids_of}
use Rattle.doc_hub.specs.RunParts.{served_by}
use Rattle.doc_server_rounds.specs.declared.round.Round.{Round}
use Rattle.doc_server_rounds.specs.Dropped.{dropped_all, is_among}
use Rattle.doc_server_rounds.specs.Faults.{Explains}
use Rattle.doc_server_rounds.specs.Made.{Makes, next_numbers}
use Rattle.doc_server_rounds.specs.declared.fault.ServeFault.{ServeFault}

-- A connection is made for each of so many peers, and one round serves their links.
pub record Rounds (render : Renders) (w : World) (count turns : ℕ) (round : Round) (v : World) (qs : List Peer) : Type 0 where
  pub taken : World
  pub before : List Peer
  pub makes : Makes render w before taken
  pub all : length before ≡ count
  pub serves : ServesAll render taken before v qs
  pub faults : round.faults ≡ fault_places before qs
  pub passes : round.passes ≤ turns
  pub ends : (round.passes ≡ turns) ⊎ AreClosed qs

-- The same, and then each of these connections is dropped.
pub record ServesOn (render : Renders) (w : World) (count turns : ℕ) (round : Round) (v : World) : Type 0 where
  pub served : World
  pub after : List Peer
  pub rounds : Rounds render w count turns round served after
  pub drops : v ≡ dropped_all served (ids_of after)

-- a connect, or a push, step or disconnect of one of these connections
abbrev pub IsOwn : List ℕ → Happened → Type 0
IsOwn ids h = (h.event ≡ events.Connect) ⊎ ((c : ℕ) × (served_by h.event ≡ Some c) × Contains ids c)

-- One run, of connects and of pushes, steps and disconnects of what they make, leaves the world. The next so many numbers are given.
-- The connections that had them are gone, and all others stand as they did.
pub record Clears (render : Renders) (w : World) (made : ℕ) (v : World) : Type 0 where
  pub run : List Happened
  pub runs : Runs render w run v
  pub own : All (IsOwn (next_numbers w.given made)) run
  pub given : v.given ≡ w.given + made
  pub connections : (c : ℕ) → connection c v ≡ (if is_among c (next_numbers w.given made) then None else connection c w)

-- Not all of so many connections were made, or no room for the round was found: these links stand.
pub record Stops (render : Renders) (w : World) (count : ℕ) (fault : ServeFault) (v : World) (ps : List Peer) : Type 0 where
  pub makes : Makes render w ps v
  pub few : length ps ≤ count
  pub why : Explains v (length ps) count fault

-- Some of so many connections were made, for a reason no more, and were dropped; nothing else has changed.
pub record Refuses (render : Renders) (w : World) (count : ℕ) (fault : ServeFault) (v : World) : Type 0 where
  pub made : ℕ
  pub few : made ≤ count
  pub why : Explains v made count fault
  pub clears : Clears render w made v
  pub rest : v ≡ record w { given = v.given; connections = v.connections }
