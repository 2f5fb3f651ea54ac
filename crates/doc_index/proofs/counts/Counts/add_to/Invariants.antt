use Rattle.std.proofs.Common.{◌≤◌, drop, length}
use Rattle.doc_index_tables.proofs.CountSteps.{HasEntries}
use Rattle.doc_index.proofs.counts.Counts.add_to.Given as goal

-- the keys from here on are done
abbrev pub invariant-loop-left : goal.invariant-loop-left
invariant-loop-left l = record {
  within : l.left ≤ length l.self-inside.entries;
  done : HasEntries (drop l.left l.self-inside.entries) l.slot l.fn.table l.table;
}

abbrev pub decreases-loop-left : goal.decreases-loop-left
decreases-loop-left l = l.left
