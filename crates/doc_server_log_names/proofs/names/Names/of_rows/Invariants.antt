use Rattle.std.proofs.Common.{◌+◌, drop}
use Rattle.toml.specs.View.{items_view}
use Rattle.doc_server_log_names.proofs.NameSteps.{Reached}
use Rattle.doc_server_log_names.proofs.names.Names.of_rows.Given as goal

abbrev pub invariant-loop-index : goal.invariant-loop-index
invariant-loop-index l = Reached l.names (l.index + 1) (items_view (drop l.index l.rows)) (items_view l.rows)
