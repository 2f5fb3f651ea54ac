use Rattle.doc_server_kept.proofs.TurnLaw.{quiet_turn_is_restored}
use Rattle.doc_server_kept.proofs.laws.a_turn_without_edits_is_restored.Goals as goal

pub returns : goal.returns
returns c = quiet_turn_is_restored
