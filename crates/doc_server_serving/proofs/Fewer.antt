-- No part of a turn but the door has more clients stand.
use Rattle.std.proofs.Common.{◌≤◌, ℕ, List}
use Rattle.std.specs.Prelude.{Option}
use Rattle.std.specs.FinMap as map
use Rattle.doc_hub.specs.Replies.{Renders}
use Rattle.doc_hub.specs.Worlds.{World}
use Rattle.doc_server_turns.specs.Turns.{Turns}
use Rattle.doc_server_turns.specs.Wirings.{Gives, SweptAll, Table}
use Rattle.doc_server_serving.proofs.Bounds.{no_more}
use Rattle.doc_server_serving.proofs.Going.{swept_none}
use Rattle.doc_server_turns.proofs.TurnSteps.{given_none}

pub fewer_swept : (t u : Table) → SweptAll t u → map.len u ≤ map.len t
fewer_swept t u swept = no_more t u (λ k none. swept_none (map.get t k) (map.get u k) (swept k) none)

pub fewer_given : (old new : ℕ → Option (List ℕ)) (ended : ℕ → Type 0) (t u : Table) → Gives old new ended t u → map.len u ≤ map.len t
fewer_given old new ended t u gives =
    no_more t u (λ k none. (given_none (old k) (new k) (ended k) (map.get t k) (map.get u k) (gives k) none).1)

pub fewer_turned : (render : Renders) (w v : World) (ready : List ℕ) (c d g h : ℕ → Option (List ℕ)) (t u : Table)
    → Turns render w v ready c d g h t u → map.len u ≤ map.len t
fewer_turned render w v ready c d g h t u turns = no_more t u (λ k none. (turns.elsewhere k none).none)
