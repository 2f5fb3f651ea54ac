use Rattle.std.proofs.Common.{◌≡◌, ◌++◌}
use Rattle.std.specs.BTreeMap.{IsOrdered}
use Rattle.std.specs.Cmp.Lexicographic.{slice_cmp}
use Rattle.std.specs.Ordering.{nat_cmp}
use Rattle.doc_links.proofs.tally.entries_in.Given as goal

-- the entries so far, and those that are left
abbrev pub invariant-loop-path : goal.invariant-loop-path
invariant-loop-path l = record {
  made : l.all.items ++ l.path-iterator ≡ l.counts.entries;
  ordered : IsOrdered (slice_cmp nat_cmp) l.counts;
}
