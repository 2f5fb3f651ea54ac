use Rattle.doc_server_reload.proofs.ReloadLaw.{reload_is_a_restart}
use Rattle.doc_server_reload.proofs.laws.a_reload_is_a_restart.Goals as goal

pub returns : goal.returns
returns c = reload_is_a_restart
