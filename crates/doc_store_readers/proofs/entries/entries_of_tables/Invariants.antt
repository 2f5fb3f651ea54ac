use Rattle.std.proofs.Common.{◌≡◌, ◌+◌, [], drop}
use Rattle.toml.specs.View.{items_view}
use Rattle.doc_store_readers.specs.Readers.{entries_from}
use Rattle.doc_store_readers.proofs.entries.entries_of_tables.Given as goal

abbrev pub invariant-loop-index : goal.invariant-loop-index
invariant-loop-index l = entries_from [] 1 (items_view l.tables) ≡ entries_from l.entries.items (l.index + 1)
    (items_view (drop l.index l.tables))
