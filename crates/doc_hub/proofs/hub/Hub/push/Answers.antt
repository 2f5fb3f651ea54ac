use Rattle.doc_hub.proofs.NumberSteps.{pushed_have}
use Rattle.doc_hub.proofs.hub.Hub.push.Goals as goal

pub invariant_of-self : goal.invariant_of-self
invariant_of-self g c =
    pushed_have c.self.inside.given c.self.inside.connections c.push.new.self c.args.id.0 c.args.bytes.now c.push.result c.self.invariant
    c.push.ensures
