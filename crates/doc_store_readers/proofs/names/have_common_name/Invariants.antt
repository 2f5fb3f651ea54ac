use Rattle.std.proofs.Common.{◌≡◌, ◌+◌, length}
use Rattle.std.specs.Cmp.Lexicographic.{slice_cmp}
use Rattle.std.specs.List.Sorted.{IsStrictlySortedBy}
use Rattle.std.specs.Ordering.{nat_cmp}
use Rattle.doc_store_readers.specs.Groups.{meet}
use Rattle.doc_store_readers.proofs.names.have_common_name.Given as goal

-- what is left of both lists has a common name where they have one
abbrev pub invariant-loop-our : goal.invariant-loop-our
invariant-loop-our l = record {
  ours : IsStrictlySortedBy (slice_cmp nat_cmp) l.ours;
  theirs : IsStrictlySortedBy (slice_cmp nat_cmp) l.theirs;
  same : meet l.fn.ours l.fn.theirs ≡ meet l.ours l.theirs;
}

abbrev pub decreases-loop-our : goal.decreases-loop-our
decreases-loop-our l = length l.ours + length l.theirs
