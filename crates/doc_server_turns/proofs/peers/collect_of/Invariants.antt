use Rattle.std.proofs.Common.{◌≡◌, ◌++◌}
use Rattle.doc_server_turns.specs.Parts.{numbers_of, takes_part}
use Rattle.doc_server_turns.proofs.peers.collect_of.Given as goal

abbrev pub invariant-clients : goal.invariant-clients
invariant-clients l =
    l.ready.items ++ numbers_of takes_part l.id-iterator ≡ l.fn.ready.items ++ numbers_of takes_part l.fn.clients
