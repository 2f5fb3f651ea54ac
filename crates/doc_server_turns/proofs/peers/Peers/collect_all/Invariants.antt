use Rattle.std.proofs.Common.{◌≡◌, ◌++◌, map as mapped}
use Rattle.doc_server_turns.proofs.peers.Peers.collect_all.Given as goal

abbrev pub invariant-clients : goal.invariant-clients
invariant-clients l =
    l.numbers.items ++ mapped (λ e. e.0) l.id-iterator ≡ l.fn.numbers.items ++ mapped (λ e. e.0) l.initial.id-iterator
