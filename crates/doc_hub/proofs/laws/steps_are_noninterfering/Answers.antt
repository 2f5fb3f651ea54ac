use Rattle.doc_hub.proofs.StepLaws.{steps_alike}
use Rattle.doc_hub.proofs.laws.steps_are_noninterfering.Goals as goal

pub returns : goal.returns
returns c = steps_alike
