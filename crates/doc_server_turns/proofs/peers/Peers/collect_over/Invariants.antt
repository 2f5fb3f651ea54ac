use Rattle.std.proofs.Common.{◌≡◌, ◌++◌}
use Rattle.doc_server_turns.specs.Parts.{numbers_of}
use Rattle.doc_server_turns.proofs.peers.Peers.collect_over.Given as goal

abbrev pub invariant-clients : goal.invariant-clients
invariant-clients l =
    l.gone.items ++ numbers_of (λ p. p.is_over) l.id-iterator ≡ l.fn.gone.items ++ numbers_of (λ p. p.is_over) l.initial.id-iterator
