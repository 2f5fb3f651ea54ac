use Rattle.std.proofs.Common.{◌≡◌, ◌+◌, drop}
use Rattle.toml.specs.View.{items_view}
use Rattle.doc_server_config.specs.ReaderNames.{bad_name_from}
use Rattle.doc_server_config.proofs.reader_names.first_bad_name.Given as goal

-- the rows so far have good names
abbrev pub invariant-loop-index : goal.invariant-loop-index
invariant-loop-index l = bad_name_from 1 (items_view l.rows) ≡ bad_name_from (l.index + 1) (items_view (drop l.index l.rows))
