use Rattle.toml.specs.View.{items_view}
use Rattle.doc_server_log_names.proofs.NameSteps.{reached_first}
use Rattle.doc_server_log_names.proofs.names.Names.of_rows.Goals as goal

pub loop-index-init : goal.loop-index-init
loop-index-init c = reached_first c.none-names.result (items_view c.args.rows.now) c.none-names.ensures
