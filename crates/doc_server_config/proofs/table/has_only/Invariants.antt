use Rattle.std.proofs.Common.{◌≡◌, map, string_bytes}
use Rattle.std.specs.List.{list_all}
use Rattle.doc_store_readers.specs.Groups.{texts_of}
use Rattle.toml.specs.View.{table_view}
use Rattle.doc_server_config.specs.Keys.{has_only, is_one_of}
use Rattle.doc_server_config.proofs.table.has_only.Given as goal

abbrev pub invariant-loop-key : goal.invariant-loop-key
invariant-loop-key l = has_only (texts_of l.keys) (table_view l.table)
    ≡ list_all (is_one_of (texts_of l.keys)) (map string_bytes l.key-iterator)
