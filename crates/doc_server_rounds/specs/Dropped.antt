-- Connections that are dropped.
use Rattle.std.specs.Prelude.{ℕ, List, [], ◌∷◌, ◌==◌, Bool}
use Rattle.std.specs.List.{list_any}
use Rattle.doc_hub.specs.Worlds.{World, disconnected}

-- the world without the connections of these numbers, dropped one after another
abbrev pub dropped_all : World → List ℕ → World
dropped_all w [] = w
dropped_all w (n ∷ ns) = dropped_all (disconnected w n).0 ns

-- whether a number is one of these
abbrev pub is_among : ℕ → List ℕ → Bool
is_among c ns = list_any (λ n. c == n) ns
