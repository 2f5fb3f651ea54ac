use Rattle.doc_server_turns.proofs.Walks.{both_walked, entries_are}
use Rattle.doc_server_turns.proofs.peers.Peers.collect.Goals as goal

pub returns : goal.returns
returns c =
    both_walked c.collect_of-2.result c.args.first c.self.inside.clients.entries c.args.self.now c.args.ready.now.items c.collect_of.new.ready.items
    c.collect_of-2.new.ready.items c.range.result c.range-2.result
    (entries_are c.self.inside.clients c.args.self.now c.self.view_is c.range.ensures.ordered) c.in_ok-collect_of.ensures
    (c.range.ensures.between tt) c.collect_of-2.ensures (c.range-2.ensures.between tt)
