use Rattle.doc_server_kept.proofs.TurnLaw.{turn_stays_of_calls}
use Rattle.doc_server_kept.proofs.laws.a_turn_leaves_a_site_of_calls.Goals as goal

pub returns : goal.returns
returns c = turn_stays_of_calls
