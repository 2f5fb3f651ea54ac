use Rattle.std.proofs.Common.{◌≡◌, drop}
use Rattle.toml.specs.View.{items_view}
use Rattle.doc_server_lint.specs.Warnings.{has_owner}
use Rattle.doc_server_lint.proofs.reader_warnings.has_owner.Given as goal

abbrev pub invariant-loop-row : goal.invariant-loop-row
invariant-loop-row l = has_owner (items_view l.rows) ≡ has_owner (items_view (drop l.row-index l.rows))
