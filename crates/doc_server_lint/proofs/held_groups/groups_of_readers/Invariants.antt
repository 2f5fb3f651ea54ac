use Rattle.std.proofs.Common.{◌≡◌, ◌+◌, drop}
use Rattle.std.specs.FinMap as map
use Rattle.toml.specs.View.{items_view}
use Rattle.doc_server_lint.specs.Warnings.{with_groups}
use Rattle.doc_server_lint.proofs.held_groups.groups_of_readers.Given as goal

-- with the groups of the readers that are left
abbrev pub invariant-loop-index : goal.invariant-loop-index
invariant-loop-index l = with_groups l.held (l.index + 1) (items_view (drop l.index l.rows)) ≡ with_groups map.empty 1 (items_view l.rows)
