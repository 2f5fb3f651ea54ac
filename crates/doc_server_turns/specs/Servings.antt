-- What serving clients does, to a hub and to the network.
use Rattle.std.specs.Prelude.{◌≡◌, ◌<◌, ◌≤◌, ◌⊎◌, ◌+◌, ⊤, ℕ, List, [], ◌++◌, length, true, false, Contains, Option, Some, None, All}
use Rattle.std.specs.FinMap as map
use Rattle.doc_hub.specs.Replies.{Renders}
use Rattle.doc_hub.specs.Runs.{Happened, Runs, events_on, sent_by, sent_on}
use Rattle.doc_hub.specs.RunParts.{AreOf, Gave, pushed_on, served_by}
use Rattle.doc_hub.specs.StepLaws.{connection}
use Rattle.doc_hub.specs.Worlds.{World}
use Rattle.doc_hub_events.specs.declared.event.Step.TheVariants as steps
use Rattle.doc_hub_events.specs.declared.outcome.Outcome.{Outcome}
use Rattle.doc_hub_events.specs.declared.outcome.Outcome.TheVariants as outcomes
use Rattle.doc_server_turns.specs.Replies.{most_pending}
use Rattle.doc_server_turns.specs.Wirings.{Peer, Table, TakesIn}

-- a step that closed its connection, or found it closed, or an event that was refused
abbrev pub IsEnding : Outcome → Type 0
IsEnding (outcomes.Stepped (steps.Last bytes)) = ⊤
IsEnding (outcomes.Stepped steps.Closed) = ⊤
IsEnding (outcomes.Refused why) = ⊤
IsEnding other = ⊥

-- No more is pending than before; or fewer bytes than the bound, and those of one reply.
abbrev pub KeepsBound : ℕ → List Happened → Peer → Peer → Type 0
KeepsBound c run p q =
    (length q.pending ≤ length p.pending) ⊎ Gave (λ o. length q.pending < most_pending + length (sent_by o)) c run

-- ---- steps

-- A run of steps of an open client's connection, of which it may be dropped at last: their replies are pending behind what was. Nothing is
-- read or handed over.
pub record Answers (render : Renders) (w v : World) (id : ℕ) (p q : Peer) : Type 0 where
  pub run : List Happened
  pub runs : Runs render w run v
  pub own : AreOf id run
  pub pushes : pushed_on id run ≡ []
  pub pending : q.pending ≡ p.pending ++ sent_on id run
  pub bound : KeepsBound id run p q
  pub rests : q.rests ≡ p.rests
  pub ends : q.is_open ≡ false → Gave IsEnding id run × (connection id v ≡ None)

-- ---- one client

-- A run serves the client of a connection, whatever else it does: what comes is pushed, and what is sent is pending behind what was, no more
-- than the bound allows. Nothing happens on the connection of a client that was closed. One that closes does so because an event of its
-- connection says so or the network has ended it, and its connection is dropped then.
pub record Served (id : ℕ) (w v : World) (c d : Option (List ℕ)) (ended : Type 0) (run : List Happened) (p q : Peer) : Type 0 where
  pub takes : TakesIn c d (pushed_on id run) (sent_on id run) p q
  pub bound : KeepsBound id run p q
  pub closed : p.is_open ≡ false → (events_on id run ≡ []) × (connection id v ≡ connection id w)
  pub ends : p.is_open ≡ true → q.is_open ≡ false → (Gave IsEnding id run ⊎ ended) × (connection id v ≡ None)

-- what serving one client alone does
pub record Serves (render : Renders) (w v : World) (id : ℕ) (c d : Option (List ℕ)) (ended : Type 0) (p q : Peer) : Type 0 where
  pub run : List Happened
  pub runs : Runs render w run v
  pub own : AreOf id run
  pub served : Served id w v c d ended run p q

-- ---- all clients

-- where no client stands, nothing happens
abbrev pub ServedAt : ℕ → World → World → Option (List ℕ) → Option (List ℕ) → Type 0 → List Happened → Option Peer → Option Peer → Type 0
ServedAt id w v c d ended run None None = (d ≡ c) × (events_on id run ≡ [])
ServedAt id w v c d ended run (Some p) (Some q) = Served id w v c d ended run p q
ServedAt id w v c d ended run p q = ⊥

-- pushes, steps and disconnects of these connections
abbrev pub AreOfThese : List ℕ → List Happened → Type 0
AreOfThese ready run = All (λ h. (c : ℕ) × (served_by h.event ≡ Some c) × Contains ready c) run

-- One run, of pushes, steps and disconnects of these connections alone, serves each client of the table.
pub record ServesAll (render : Renders) (w v : World) (ready : List ℕ) (came later : ℕ → Option (List ℕ)) (ended : ℕ → Type 0)
    (before after : Table) : Type 0 where
  pub run : List Happened
  pub runs : Runs render w run v
  pub own : AreOfThese ready run
  pub each : (k : ℕ) → ServedAt k w v (came k) (later k) (ended k) run (map.get before k) (map.get after k)
