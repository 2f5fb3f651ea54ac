use Rattle.std.proofs.Common.{◌≡◌, ◌+◌, [], drop}
use Rattle.toml.specs.View.{items_view}
use Rattle.doc_server_config.specs.PageRows.{pages_from}
use Rattle.doc_server_config.proofs.page_row.pages_of.Given as goal

abbrev pub invariant-loop-index : goal.invariant-loop-index
invariant-loop-index l = pages_from [] 1 (items_view l.tables) ≡ pages_from l.pages.items (l.index + 1)
    (items_view (drop l.index l.tables))
