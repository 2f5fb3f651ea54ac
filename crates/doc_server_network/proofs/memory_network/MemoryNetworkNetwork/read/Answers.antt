use Rattle.doc_server_network.proofs.MemorySteps.{queued_last, queued_still}
use Rattle.doc_server_network.proofs.memory_network.MemoryNetworkNetwork.read.Goals as goal

pub returns-then-eq-clause-wakes : goal.returns-then-eq-clause-wakes
returns-then-eq-clause-wakes c = λ k off is.
    queued_still k c.args.id c.args.self.now.waking.items c.reserve.new.self.items c.push_back_reserved.new.self.items
    c.reserve.ensures.items c.push_back_reserved.ensures.items is

pub returns-then-eq-clause-arms : goal.returns-then-eq-clause-arms
returns-then-eq-clause-arms c = λ none.
    queued_last c.args.id c.reserve.new.self.items c.push_back_reserved.new.self.items c.push_back_reserved.ensures.items
