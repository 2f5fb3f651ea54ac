use Rattle.doc_server_reload.proofs.ReloadLaw.{a_reload_is_a_restart_beside}
use Rattle.doc_server_reload.proofs.laws.a_reload_is_a_restart_beside.Goals as goal

pub returns : goal.returns
returns c = a_reload_is_a_restart_beside
