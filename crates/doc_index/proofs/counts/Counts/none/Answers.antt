use Rattle.std.proofs.Common.{List, ℕ, [], ◌≡◌, sym, subst}
use Rattle.std.specs.Cmp.Lexicographic.{slice_cmp}
use Rattle.std.specs.List.Sorted.{IsStrictlySortedBy}
use Rattle.std.specs.Map.{keys_of}
use Rattle.std.specs.Ordering.{nat_cmp}
use Rattle.doc_index.proofs.counts.Counts.none.Goals as goal

none_rise : (entries : List (List ℕ × ℕ)) → entries ≡ [] → IsStrictlySortedBy (slice_cmp nat_cmp) (keys_of entries)
unfolding IsStrictlySortedBy
none_rise entries none = subst (λ es. IsStrictlySortedBy (slice_cmp nat_cmp) (keys_of es)) (sym none) tt

pub invariant_of-result : goal.invariant_of-result
invariant_of-result c = none_rise c.new.result c.new.ensures
