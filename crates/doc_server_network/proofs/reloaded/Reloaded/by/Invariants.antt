use Rattle.std.proofs.Common.{◌≡◌, ◌≤◌, ◌+◌, drop}
use Rattle.doc_server_network.specs.Reloads.{count_of_puts, count_of_removals}
use Rattle.doc_server_network.proofs.reloaded.Reloaded.by.Given as goal

abbrev pub invariant-loop-edit : goal.invariant-loop-edit
invariant-loop-edit l = record {
  put : l.put + count_of_puts (drop l.edit-index l.edits) ≡ count_of_puts l.edits;
  removed : l.removed + count_of_removals (drop l.edit-index l.edits) ≡ count_of_removals l.edits;
  few_put : l.put ≤ l.edit-index;
  few_removed : l.removed ≤ l.edit-index;
}
