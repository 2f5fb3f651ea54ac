use Rattle.doc_server_network.proofs.MemorySteps.{queued_last, queued_still}
use Rattle.doc_server_network.proofs.memory_network.MemoryNetwork.keep.Goals as goal

pub returns-clause-wakes : goal.returns-clause-wakes
returns-clause-wakes c = λ k is.
    queued_still k c.args.id c.args.self.now.waking.items c.reserve.new.self.items c.push_back_reserved.new.self.items
    c.reserve.ensures.items c.push_back_reserved.ensures.items is

pub returns-clause-arms : goal.returns-clause-arms
returns-clause-arms c = λ peer.
    queued_last c.args.id c.reserve.new.self.items c.push_back_reserved.new.self.items c.push_back_reserved.ensures.items
