use Rattle.std.proofs.Common.{◌≡◌, ◌++◌, ◌∷◌}
use Rattle.std.specs.BTreeMap.{IsOrdered}
use Rattle.std.specs.Cmp.Lexicographic.{slice_cmp}
use Rattle.std.specs.Map.{keys_of}
use Rattle.std.specs.Ordering.{nat_cmp}
use Rattle.doc_store_readers.specs.Groups.{texts_of}
use Rattle.doc_store.proofs.path_set.after.Given as goal

-- the names so far, and the paths that are left
abbrev pub invariant-loop-path : goal.invariant-loop-path
invariant-loop-path l = record {
  found : texts_of l.names.items ++ l.path-iterator ≡ l.first ∷ keys_of l.paths.entries;
  ordered : IsOrdered (slice_cmp nat_cmp) l.paths;
}
