-- Collected names are in the order of bytes, no two the same.
use Rattle.std.proofs.Common.{◌≡◌, ℕ, ◌≤◌, List, [], ◌∷◌, length, map, true, Less, Equal, Greater, refl, sym, ap, ◌∙◌}
use Rattle.std.proofs.Common.{subst, arith}
use Rattle.std.specs.Cmp.Lexicographic.{slice_cmp}
use Rattle.std.specs.List.{list_all, AllByRecursion}
use Rattle.std.specs.List.Sorted.{IsStrictlySortedBy}
use Rattle.std.specs.Ordering.{nat_cmp, match_ordering, ordering_reverse}
use Rattle.std.proofs.lemmas.Cmp.{nat_list_cmp_total}
use Rattle.std.proofs.lemmas.List.{length-map}
use Rattle.doc_store_readers.specs.Groups.{IsGroups, is_group, with_name, with_names, group_limit}
use Rattle.doc_page_parts.proofs.Bools.{and_first, and_second}
use Rattle.std.proofs.lemmas.Bool.{and_from}

-- the name is below each of these
abbrev pub IsBelow : List ℕ → List (List ℕ) → Type 0
IsBelow name names = AllByRecursion (λ other. slice_cmp nat_cmp name other ≡ Less) names

-- the other way round
pub turned : (a b : List ℕ) → slice_cmp nat_cmp a b ≡ Greater → slice_cmp nat_cmp b a ≡ Less
turned a b more = nat_list_cmp_total.antisymm b a ∙ ap ordering_reverse more

-- what is below a name is below all that this is below
pub below_more : (a b : List ℕ) (names : List (List ℕ)) → slice_cmp nat_cmp a b ≡ Less → IsBelow b names → IsBelow a names
below_more a b [] less below = tt
below_more a b (name ∷ names) less below = (nat_list_cmp_total.trans a b name less below.0, below_more a b names less below.1)

below-with_name : (a name : List ℕ) (names : List (List ℕ)) → slice_cmp nat_cmp a name ≡ Less → IsBelow a names
    → IsBelow a (with_name name names)
below-with_name a name [] less below = (less, tt)
below-with_name a name (first ∷ rest) less below =
    elim (slice_cmp nat_cmp name first) as (λ order. IsBelow a
    (match_ordering order (name ∷ first ∷ rest) (first ∷ rest) (first ∷ with_name name rest))) [
      | Less ↦ (less, below)
      | Equal ↦ below
      | Greater ↦ (below.0, below-with_name a name rest less below.1)
    ]

sorted-with_name : (name : List ℕ) (names : List (List ℕ)) → IsStrictlySortedBy (slice_cmp nat_cmp) names
    → IsStrictlySortedBy (slice_cmp nat_cmp) (with_name name names)
unfolding IsStrictlySortedBy
sorted-with_name name [] sorted = (tt, tt)
sorted-with_name name (first ∷ rest) sorted =
    (elim (slice_cmp nat_cmp name first) as (λ order. slice_cmp nat_cmp name first ≡ order
    → IsStrictlySortedBy (slice_cmp nat_cmp) (match_ordering order (name ∷ first ∷ rest) (first ∷ rest) (first ∷ with_name name rest))) [
      | Less ↦ λ less. ((less, below_more name first rest less sorted.0), sorted)
      | Equal ↦ λ same. sorted
      | Greater ↦ λ more. (below-with_name first name rest (turned name first more) sorted.0, sorted-with_name name rest sorted.1)
    ]) refl

sorted-with_names : (before names : List (List ℕ)) → IsStrictlySortedBy (slice_cmp nat_cmp) before
    → IsStrictlySortedBy (slice_cmp nat_cmp) (with_names before names)
sorted-with_names before [] sorted = sorted
sorted-with_names before (name ∷ names) sorted = sorted-with_names (with_name name before) names (sorted-with_name name before sorted)

-- ---- they are names of groups

good-with_name : (name : List ℕ) (names : List (List ℕ)) → is_group name ≡ true → list_all is_group names ≡ true
    → list_all is_group (with_name name names) ≡ true
good-with_name name [] good all = and_from (is_group name) true good refl
good-with_name name (first ∷ rest) good all =
    elim (slice_cmp nat_cmp name first) as (λ order. list_all is_group
    (match_ordering order (name ∷ first ∷ rest) (first ∷ rest) (first ∷ with_name name rest)) ≡ true) [
      | Less ↦ and_from (is_group name) (list_all is_group (first ∷ rest)) good all
      | Equal ↦ all
      | Greater ↦ and_from (is_group first) (list_all is_group (with_name name rest))
          (and_first (is_group first) (list_all is_group rest) all)
          (good-with_name name rest good (and_second (is_group first) (list_all is_group rest) all))
    ]

good-with_names : (before names : List (List ℕ)) → list_all is_group before ≡ true → list_all is_group names ≡ true
    → list_all is_group (with_names before names) ≡ true
good-with_names before [] good all = good
good-with_names before (name ∷ names) good all =
    good-with_names (with_name name before) names (good-with_name name before (and_first (is_group name) (list_all is_group names) all)
    good)
    (and_second (is_group name) (list_all is_group names) all)

-- ---- so they are groups, where they are few

pub no_groups : IsGroups []
unfolding IsStrictlySortedBy
no_groups = record { sorted = tt; good = refl; few = omega arith }

pub no_names : (names : List (List ℕ)) → names ≡ [] → IsGroups names
no_names names none = subst IsGroups (sym none) no_groups

pub collected : (names found : List (List ℕ)) → list_all is_group names ≡ true → with_names [] names ≡ found → length found ≤ group_limit
    → IsGroups found
collected names found good same few = record {
  sorted = subst (IsStrictlySortedBy (slice_cmp nat_cmp)) same (sorted-with_names [] names no_groups.sorted);
  good = sym (ap (list_all is_group) same) ∙ good-with_names [] names refl good;
  few = few;
}

-- the names that a slice has
pub collected_in_slice : {A : Type 0} (f : A → List ℕ) (names : List (List ℕ)) (found shown : List A) → list_all is_group names ≡ true
    → with_names [] names ≡ map f found → shown ≡ found → length shown ≤ group_limit → IsGroups (map f shown)
collected_in_slice f names found shown good same is few =
    collected names (map f shown) good (same ∙ ap (map f) (sym is)) (omega (arith, length-map shown f))

-- names that equal those of groups
pub groups_are : (names others : List (List ℕ)) → others ≡ names → IsGroups names → IsGroups others
groups_are names others same groups = subst IsGroups (sym same) groups
