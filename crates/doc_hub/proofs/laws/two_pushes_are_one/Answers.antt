use Rattle.doc_hub.proofs.PushLaws.{pushes_join}
use Rattle.doc_hub.proofs.laws.two_pushes_are_one.Goals as goal

pub returns : goal.returns
returns c = pushes_join
