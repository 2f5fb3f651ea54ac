use Rattle.std.proofs.Common.{◌∙◌, sym, refl}
use Rattle.std.specs.Map.Iter.{deref_pair}
use Rattle.std.proofs.lemmas.Map.Iter.{rest_all}
use Rattle.doc_server_turns.specs.Parts.{numbers_of}
use Rattle.doc_server_turns.proofs.Walks.{entries_are, walked}
use Rattle.doc_server_turns.proofs.peers.Peers.collect_over.Goals as goal

pub returns : goal.returns
returns c =
    let gives = c.into_iter-id-iterator.ensures.into_iter_gives in
    walked (numbers_of (λ p. p.is_over)) c.clients.gone.items c.args.gone.now.items c.clients.id-iterator c.into_iter-id-iterator.result _
    refl (rest_all deref_pair c.clients.id-iterator c.next.new.self c.next.result c.in-None.is c.next.ensures.steps) c.clients.invariant
    (gives.0 ∙ sym (entries_are c.self.inside.clients c.args.self.now c.self.view_is gives.5))
