-- Connections that are made for peers.
use Rattle.std.specs.Prelude.{◌≡◌, ℕ, zero, suc, ◌+◌, List, [], ◌∷◌, ◌++◌, length, true, false, All, Ok}
use Rattle.doc_hub.specs.Replies.{Renders}
use Rattle.doc_hub.specs.Runs.{Happened, Runs, Happens}
use Rattle.doc_hub.specs.StepLaws.{connection}
use Rattle.doc_hub.specs.Worlds.{World}
use Rattle.doc_hub_events.specs.declared.event.Event.TheVariants as events
use Rattle.doc_server_rounds.specs.Peers.{Peer}
use Rattle.doc_server_rounds.specs.Rounds.{ids_of}
use Rattle.doc_server_rounds.specs.Dropped.{is_among}

-- the next so many numbers of connections, where so many were given
abbrev pub next_numbers : ℕ → ℕ → List ℕ
next_numbers given zero = []
next_numbers given (suc n) = next_numbers given n ++ (given + n + 1) ∷ []

-- a link that nothing has happened on
pub record IsNew (p : Peer) : Type 0 where
  pub opened : p.is_open ≡ true
  pub pending : p.pending ≡ []
  pub failed : p.failed ≡ 0

-- One connect makes the connection of a further link.
pub record MakesOne (render : Renders) (w : World) (ps : List Peer) (v : World) (qs : List Peer) : Type 0 where
  pub peer : Peer
  pub new : IsNew peer
  pub connects : Happens render w events.Connect v (Ok (record { 0 = peer.id }))
  pub behind : qs ≡ ps ++ peer ∷ []

-- A run of connects makes the connections of these links, under the next numbers, and changes nothing else.
pub record Makes (render : Renders) (w : World) (ps : List Peer) (v : World) : Type 0 where
  pub run : List Happened
  pub runs : Runs render w run v
  pub own : All (λ h. h.event ≡ events.Connect) run
  pub new : All IsNew ps
  pub numbers : ids_of ps ≡ next_numbers w.given (length ps)
  pub given : v.given ≡ w.given + length ps
  pub others : (c : ℕ) → is_among c (ids_of ps) ≡ false → connection c v ≡ connection c w
  pub rest : v ≡ record w { given = v.given; connections = v.connections }
