use Rattle.std.proofs.Common.{◌≡◌, ◌++◌, map as mapped}
use Rattle.std.specs.BTreeMap.{IsOrdered}
use Rattle.std.specs.Cmp.Lexicographic.{slice_cmp}
use Rattle.std.specs.Map.{keys_of}
use Rattle.std.specs.Ordering.{nat_cmp}
use Rattle.doc_store.proofs.path_set.copies_of.Given as goal

-- the copies so far, and one for each path that is left
abbrev pub invariant-loop-path : goal.invariant-loop-path
invariant-loop-path l = record {
  made : l.copies.items ++ mapped (λ _. l.other) l._path-iterator ≡ mapped (λ _. l.other) (keys_of l.paths.entries);
  ordered : IsOrdered (slice_cmp nat_cmp) l.paths;
}
