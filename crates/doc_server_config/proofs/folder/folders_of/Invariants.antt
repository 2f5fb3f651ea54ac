use Rattle.std.proofs.Common.{◌≡◌, ◌+◌, [], drop}
use Rattle.toml.specs.View.{items_view}
use Rattle.doc_server_config.specs.Folders.{folders_from}
use Rattle.doc_server_config.proofs.folder.folders_of.Given as goal

abbrev pub invariant-loop-index : goal.invariant-loop-index
invariant-loop-index l = folders_from [] 1 (items_view l.tables) ≡ folders_from l.folders.items (l.index + 1)
    (items_view (drop l.index l.tables))
