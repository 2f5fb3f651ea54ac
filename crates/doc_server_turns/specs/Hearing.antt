-- Who takes part in a turn and reads is heard in it.
use Rattle.std.specs.Prelude.{◌≡◌, ◌⊎◌, ⊤, ℕ, List, [], true, Contains, Option, Some, None}
use Rattle.std.specs.FinMap as map
use Rattle.doc_hub.specs.Runs.{Happened, events_on}
use Rattle.doc_server_turns.specs.Parts.{takes_part}
use Rattle.doc_server_turns.specs.Wirings.{Peer, Table}

-- a client that takes part in the turn that begins, and reads in it
abbrev pub IsReader : Peer → Type 0
IsReader p = (p.reads ≡ true) × (takes_part p ≡ true)

-- it rests, so that the network tells of it, or something has happened on its connection
abbrev pub WasHeard : ℕ → List Happened → Peer → Type 0
WasHeard k run q = (q.rests ≡ true) ⊎ (events_on k run ≡ [] → ⊥)

abbrev pub HeardAt : ℕ → List Happened → Option Peer → Option Peer → Type 0
HeardAt k run (Some p) (Some q) = IsReader p → WasHeard k run q
HeardAt k run p q = ⊤

-- it waits for the network, or is over
abbrev pub Waits : Peer → Type 0
Waits p = (p.rests ≡ true) ⊎ (p.is_over ≡ true)

-- Whoever takes part as the turn begins, and reads, waits behind it, or something has happened on its connection.
abbrev pub IsMinded : ℕ → List Happened → Option Peer → Option Peer → Type 0
IsMinded k run (Some p) (Some q) = IsReader p → Waits q ⊎ (events_on k run ≡ [] → ⊥)
IsMinded k run p q = ⊤

-- Whoever waited waits still, and whoever has come waits.
abbrev pub WaitsOn : Option Peer → Option Peer → Type 0
WaitsOn p None = ⊤
WaitsOn None (Some q) = Waits q
WaitsOn (Some p) (Some q) = Waits p → Waits q

abbrev pub WaitOn : Table → Table → Type 0
WaitOn t u = (k : ℕ) → WaitsOn (map.get t k) (map.get u k)

-- What serving some clients does to any: whoever rested rests or was heard, who reads is as before or was heard, and whoever waited waits.
pub record Hears (k : ℕ) (run : List Happened) (p q : Peer) : Type 0 where
  pub resting : p.rests ≡ true → WasHeard k run q
  pub reading : IsReader p → (q ≡ p) ⊎ WasHeard k run q
  pub waits : Waits p → Waits q

abbrev pub HearsAt : ℕ → List Happened → Option Peer → Option Peer → Type 0
HearsAt k run None None = ⊤
HearsAt k run (Some p) (Some q) = Hears k run p q
HearsAt k run p q = ⊥

-- and each of these that reads was heard
pub record HearsAll (ready : List ℕ) (run : List Happened) (t u : Table) : Type 0 where
  pub any : (k : ℕ) → HearsAt k run (map.get t k) (map.get u k)
  pub each : (k : ℕ) → Contains ready k → HeardAt k run (map.get t k) (map.get u k)

-- ---- what leaves whoever rests, or is over, as before, and whoever reads but for its times

pub record Spares (p q : Peer) : Type 0 where
  pub resting : p.rests ≡ true → q ≡ p
  pub reading : p.reads ≡ true → q ≡ record p { times = q.times }
  pub over : p.is_over ≡ true → q ≡ p

abbrev pub SparesAt : Option Peer → Option Peer → Type 0
SparesAt None None = ⊤
SparesAt (Some p) (Some q) = Spares p q
SparesAt p q = ⊥

abbrev pub SparesAll : Table → Table → Type 0
SparesAll t u = (k : ℕ) → SparesAt (map.get t k) (map.get u k)

-- ---- who is told of

-- Whoever takes part and reads is as before, or is over; and whoever is over stays so.
pub record Rouses (p q : Peer) : Type 0 where
  pub reading : IsReader p → (q ≡ p) ⊎ (q.is_over ≡ true)
  pub over : p.is_over ≡ true → q.is_over ≡ true

abbrev pub RousesAt : Option Peer → Option Peer → Type 0
RousesAt None None = ⊤
RousesAt (Some p) (Some q) = Rouses p q
RousesAt p q = ⊥

abbrev pub RouseAll : Table → Table → Type 0
RouseAll t u = (k : ℕ) → RousesAt (map.get t k) (map.get u k)
