use Rattle.doc_server_reload.proofs.RestoredSites.{restored_sites_are_of_calls}
use Rattle.doc_server_reload.proofs.laws.what_is_restored_is_of_calls.Goals as goal

pub returns : goal.returns
returns c = restored_sites_are_of_calls
