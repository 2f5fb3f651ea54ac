use Rattle.std.proofs.Common.{sym, subst}
use Rattle.doc_hub.specs.Connections.{HaveGivenNumbers}
use Rattle.doc_hub.proofs.NumberSteps.{none_have}
use Rattle.doc_hub.proofs.hub.Hub.with_media.Goals as goal

pub invariant_of-result : goal.invariant_of-result
invariant_of-result g c = subst (HaveGivenNumbers 0) (sym c.new-3.ensures) none_have
