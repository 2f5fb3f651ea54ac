use Rattle.doc_server_kept.proofs.TurnLaw.{turn_is_restored}
use Rattle.doc_server_kept.proofs.laws.a_turn_is_restored.Goals as goal

pub returns : goal.returns
returns c = turn_is_restored
