use Rattle.doc_hub.proofs.NumberSteps.{removed_have}
use Rattle.doc_hub.proofs.hub.Hub.disconnect.Goals as goal

pub invariant_of-self : goal.invariant_of-self
invariant_of-self g c = removed_have c.self.inside.given c.self.inside.connections c.remove.new.self c.args.id.0 c.self.invariant
    c.remove.ensures.left
