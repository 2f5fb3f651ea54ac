use Rattle.doc_hub.proofs.EditingLaws.{no_update_is_lost}
use Rattle.doc_hub.proofs.laws.no_update_is_lost.Goals as goal

pub returns : goal.returns
returns c = no_update_is_lost
