use Rattle.doc_server_reload.proofs.CallLaw.{reloads_stay_of_calls}
use Rattle.doc_server_reload.proofs.laws.a_reloaded_site_is_as_calls_make_it.Goals as goal

pub returns : goal.returns
returns c = reloads_stay_of_calls
