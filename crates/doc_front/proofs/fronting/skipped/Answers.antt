use Rattle.doc_front.proofs.FrontSteps.{skipped_is, stays}
use Rattle.doc_front.proofs.fronting.skipped.Goals as goal

pub returns-in-Some : goal.returns-in-Some
returns-in-Some c = skipped_is _ _ _ c.in-Some.ensures

pub returns-in-None : goal.returns-in-None
returns-in-None c = stays _ c.in-None.ensures
