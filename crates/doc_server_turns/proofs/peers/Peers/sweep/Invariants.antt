use Rattle.std.proofs.Common.{ℕ, take}
use Rattle.std.specs.Prelude.{Contains}
use Rattle.std.specs.FinMap as map
use Rattle.doc_server_turns.specs.Sweeps.{Sweeps}
use Rattle.doc_server_turns.specs.Wirings.{IsFedAt, SweptAll}
use Rattle.doc_server_turns.proofs.peers.Peers.sweep.Given as goal

abbrev pub invariant-numbers : goal.invariant-numbers
invariant-numbers l = record {
  exact : Sweeps l.limits l.is_crowded (take l.id-index l.numbers) l.fn.self l.self;
  swept : SweptAll l.fn.self l.self;
  fed : (k : ℕ) → Contains (take l.id-index l.numbers) k → IsFedAt (map.get l.self k);
}
