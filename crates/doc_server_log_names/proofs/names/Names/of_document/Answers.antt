use Rattle.doc_server_log_names.proofs.NameSteps.{no_rows}
use Rattle.doc_server_log_names.proofs.names.Names.of_document.Goals as goal

pub returns-in-None : goal.returns-in-None
returns-in-None c = no_rows _ _ c.none.ensures c.in-None.ensures
