use Rattle.doc_hub.proofs.NumberSteps.{one_more}
use Rattle.doc_hub.proofs.hub.Hub.connect.Goals as goal

pub invariant_of-self-2 : goal.invariant_of-self-2
invariant_of-self-2 g c =
    one_more c.self.inside.given c.self.inside.connections c.insert.new.self _ c.self.invariant c.in_ok-insert.ensures.ok
