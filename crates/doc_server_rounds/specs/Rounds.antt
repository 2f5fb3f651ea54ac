-- What a round does to the hub and to its links.
use Rattle.std.specs.Prelude.{◌≡◌, ℕ, ◌+◌, List, [], ◌∷◌, false, nat_lt, All, Some, map, slice_get, if◌then◌else◌}
use Rattle.doc_hub.specs.Replies.{Renders}
use Rattle.doc_hub.specs.Runs.{Happened, Runs}
use Rattle.doc_hub.specs.Worlds.{World}
use Rattle.doc_server_rounds.specs.Peers.{Peer}
use Rattle.doc_hub.specs.RunParts.{IsAlone, AreOfAny}
use Rattle.doc_server_rounds.specs.Served.{Served}

-- the numbers of the links' connections
abbrev pub ids_of : List Peer → List ℕ
ids_of ps = map (λ p. p.id) ps

-- One run, of the links' events alone, serves each link whose connection is no other link's.
pub record ServesAll (render : Renders) (w : World) (ps : List Peer) (v : World) (qs : List Peer) : Type 0 where
  pub run : List Happened
  pub runs : Runs render w run v
  pub own : AreOfAny (ids_of ps) run
  pub ids : ids_of qs ≡ ids_of ps
  pub each : (i : ℕ) (p q : Peer) → slice_get ps i ≡ Some p → slice_get qs i ≡ Some q → IsAlone (ids_of ps) i → Served p.id w p run v q

-- every link is closed
abbrev pub AreClosed : List Peer → Type 0
AreClosed ps = All (λ p. p.is_open ≡ false) ps

-- the places where a count rose, from this place on
abbrev pub risen_from : ℕ → List ℕ → List ℕ → List ℕ
risen_from i [] news = []
risen_from i (old ∷ olds) [] = []
risen_from i (old ∷ olds) (new ∷ news) =
    if nat_lt old new then i ∷ risen_from (i + 1) olds news else risen_from (i + 1) olds news

-- how many calls of each link's stream failed
abbrev pub failures_in : List Peer → List ℕ
failures_in ps = map (λ p. p.failed) ps

-- the places of the links whose streams failed
abbrev pub fault_places : List Peer → List Peer → List ℕ
fault_places ps qs = risen_from 0 (failures_in ps) (failures_in qs)
