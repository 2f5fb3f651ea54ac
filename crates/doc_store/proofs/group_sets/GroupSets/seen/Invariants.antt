use Rattle.std.proofs.Common.{◌≡◌, ◌<◌, ℕ, false, length}
use Rattle.std.specs.Prelude.{slice_index_or}
use Rattle.doc_store.specs.GroupSets.{groups_at, sees_groups}
use Rattle.doc_store.proofs.group_sets.GroupSets.seen.Given as goal

-- what the flags so far say
abbrev pub invariant-loop-number : goal.invariant-loop-number
invariant-loop-number l = record {
  few : length l.seen.items ≡ l.number;
  says : (n : ℕ) → n < length l.seen.items → slice_index_or l.seen.items n false ≡ sees_groups l.reader (groups_at l.self n);
}
