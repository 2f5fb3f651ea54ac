-- What a turn does, to a hub, to its clients and to their connections.
use Rattle.std.specs.Prelude.{◌≡◌, ◌++◌, ℕ, List, [], Option, None}
use Rattle.std.specs.FinMap as map
use Rattle.doc_hub.specs.Replies.{Renders}
use Rattle.doc_hub.specs.Runs.{Happened, Runs, events_on, sent_on}
use Rattle.doc_hub.specs.RunParts.{AreOfAny, pushed_on}
use Rattle.doc_hub.specs.Worlds.{World}
use Rattle.doc_server_turns.specs.Wirings.{Peer, Table, Wired}

-- meanwhile nothing has passed on a connection without a client, nothing has happened there, and nobody has come to stand there
pub record IsLeft (k : ℕ) (c d g h : Option (List ℕ)) (run : List Happened) (q : Option Peer) : Type 0 where
  pub came : d ≡ c
  pub gone : h ≡ g
  pub events : events_on k run ≡ []
  pub none : q ≡ None

-- One run, of pushes, steps and disconnects of these connections alone. Whatever was pushed and sent before it, each connection stays wired by
-- it, and where no client stands nothing happens.
pub record Turns (render : Renders) (w v : World) (ready : List ℕ) (c d g h : ℕ → Option (List ℕ)) (before after : Table) : Type 0 where
  pub run : List Happened
  pub runs : Runs render w run v
  pub own : AreOfAny ready run
  pub wired : (k : ℕ) (pushed sent : List ℕ) → Wired (c k) (g k) pushed sent (map.get before k)
      → Wired (d k) (h k) (pushed ++ pushed_on k run) (sent ++ sent_on k run) (map.get after k)
  pub elsewhere : (k : ℕ) → map.get before k ≡ None → IsLeft k (c k) (d k) (g k) (h k) run (map.get after k)
