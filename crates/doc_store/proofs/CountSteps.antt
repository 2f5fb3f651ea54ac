-- Steps of the sets of groups, each with how many pages have it.
use Rattle.std.proofs.Common.{◌≡◌, ℕ, zero, suc, ◌+◌, List, [], ◌∷◌, Bool, true}
use Rattle.std.proofs.Common.{false, cond, length, Ordering, Less, refl, ap, sym, ◌∙◌, arith}
use Rattle.std.specs.Prelude.{Option, Some, None, Vec, filter, sum_by}
use Rattle.std.specs.BTreeMap.{BTreeMap, UpdatesBy, is_at}
use Rattle.std.specs.Cmp.{IsTotalOrder, eq_by_cmp_equiv, tied_itself}
use Rattle.std.specs.Cmp.Lexicographic.{lists_total}
use Rattle.std.specs.FinMap as map
use Rattle.std.specs.List.{AllByRecursion}
use Rattle.std.specs.List.Sorted.{IsStrictlySortedBy}
use Rattle.std.specs.Map.{KeepsOthers, lookup, keys_of, values_of}
use Rattle.std.specs.Ordering.{is_eq}
use Rattle.std.proofs.lemmas.Cmp.{nat_list_cmp_total}
use Rattle.std.proofs.lemmas.List.Sums.{sum_by-cons}
use Rattle.std.proofs.lemmas.Map.Lookups.{CmpEqualImpliesEq, exact_bytes}
use Rattle.doc_page_parts.proofs.Bools.{clash}
use Rattle.doc_page_parts.proofs.Maps.{entries_in_order, inserted, looked_up, removed}
use Rattle.doc_page_parts.proofs.Orders.{is_eq_true}
use Rattle.doc_store.proofs.SumSteps.{sum_set, sum_taken}
use Rattle.doc_store.specs.declared.group_sets.GroupSet.{GroupSet}
use Rattle.doc_store.specs.GroupSets.{groups_cmp, number_met, number_with, one_more, same_groups, set_of, sets_shown}
use Rattle.doc_store_readers.specs.Groups.{meet}
use Rattle.doc_store_readers.specs.Pages.{StampedPage}

pub groups_total : IsTotalOrder groups_cmp
groups_total = lists_total nat_list_cmp_total

pub groups_exact : CmpEqualImpliesEq groups_cmp
groups_exact = map.slice_cmp-IsAntisymmetric exact_bytes

pub groups_from : (groups others : List (List ℕ)) → same_groups groups others ≡ true → groups ≡ others
groups_from groups others e = groups_exact groups others (is_eq_true (groups_cmp groups others) e)

pub groups_itself : (groups : List (List ℕ)) → same_groups groups groups ≡ true
groups_itself groups = ap is_eq (tied_itself groups_total groups)

apart : (one groups names : List (List ℕ)) → same_groups one groups ≡ false → same_groups one names ≡ true
    → same_groups groups names ≡ false
apart one groups names n y = by (same_groups groups names) refl
  where
    by : (b : Bool) → same_groups groups names ≡ b → b ≡ false
    by true e = absurd (clash (same_groups one groups)
        (ap (same_groups one) (groups_from groups names e ∙ sym (groups_from one names y)) ∙ groups_itself one) n)
    by false e = refl

-- ---- entries by lists of names, and the map that they make

module _ {A X : Type 0} where
  found_shown : (es : List (Vec (List ℕ) A × X)) (groups : List (List ℕ))
      → lookup (is_at (λ names. groups_cmp groups names.items)) es ≡ lookup (is_at (groups_cmp groups)) (sets_shown es)
  found_shown [] groups = refl
  found_shown (e ∷ es) groups = ap (cond (is_at (groups_cmp groups) e.0.items) (Some e.1)) (found_shown es groups)

  pub set_found : (es : List (Vec (List ℕ) A × X)) (groups : List (List ℕ))
      → lookup (is_at (λ names. groups_cmp groups names.items)) es ≡ map.get {R = groups_cmp} (map.from_entries (sets_shown es)) groups
  set_found es groups = found_shown es groups ∙ looked_up groups_total groups_exact (sets_shown es) groups

  others_kept : (test other : Vec (List ℕ) A → Bool) (old new : List (Vec (List ℕ) A × X))
      → KeepsOthers (λ x y. same_groups x.items y.items) test old new
      → ((x y : Vec (List ℕ) A) → other x ≡ true → other y ≡ same_groups x.items y.items)
      → ((k : Vec (List ℕ) A) → test k ≡ true → other k ≡ false) → lookup other new ≡ lookup other old
  unfolding KeepsOthers
  others_kept test other old new kept = kept other

  set_changed : (m n : BTreeMap (Vec (List ℕ) A) X) (one : List (List ℕ)) (set : Option X)
      → UpdatesBy (λ x y. groups_cmp x.items y.items) (λ names. groups_cmp one names.items) m n set → (groups : List (List ℕ))
      → lookup (is_at (groups_cmp groups)) (sets_shown n.entries)
      ≡ cond (is_at (groups_cmp one) groups) set (lookup (is_at (groups_cmp groups)) (sets_shown m.entries))
  set_changed m n one set updates groups = by (same_groups one groups) refl
    where
      by : (b : Bool) → same_groups one groups ≡ b → lookup (is_at (groups_cmp groups)) (sets_shown n.entries)
          ≡ cond b set (lookup (is_at (groups_cmp groups)) (sets_shown m.entries))
      by true e =
          ap (λ x. lookup (is_at (groups_cmp x)) (sets_shown n.entries)) (sym (groups_from one groups e))
          ∙ sym (found_shown n.entries one) ∙ updates.1
      by false e =
          sym (found_shown n.entries groups)
          ∙ others_kept (is_at (λ names. groups_cmp one names.items)) (is_at (λ names. groups_cmp groups names.items)) m.entries
          n.entries updates.3 (λ x y. (eq_by_cmp_equiv groups_total).congr groups x.items y.items) (λ k. apart one groups k.items e)
          ∙ found_shown m.entries groups

  pub set_put : (m n : BTreeMap (Vec (List ℕ) A) X) (groups : List (List ℕ)) (set : X)
      → UpdatesBy (λ x y. groups_cmp x.items y.items) (λ names. groups_cmp groups names.items) m n (Some set)
      → map.from_entries {R = groups_cmp} (sets_shown n.entries) ≡ map.insert (map.from_entries (sets_shown m.entries)) groups set
  set_put m n groups set updates =
      inserted groups_total groups_exact (sets_shown m.entries) (sets_shown n.entries) groups set
      (set_changed m n groups (Some set) updates)

  pub set_gone : (m n : BTreeMap (Vec (List ℕ) A) X) (groups : List (List ℕ))
      → UpdatesBy (λ x y. groups_cmp x.items y.items) (λ names. groups_cmp groups names.items) m n None
      → map.from_entries {R = groups_cmp} (sets_shown n.entries) ≡ map.remove (map.from_entries (sets_shown m.entries)) groups
  set_gone m n groups updates =
      removed groups_total groups_exact (sets_shown m.entries) (sets_shown n.entries) groups (set_changed m n groups None updates)

  after_shown : (groups : List (List ℕ)) (es : List (Vec (List ℕ) A × X))
      → AllByRecursion (λ names. groups_cmp groups names.items ≡ Less) (keys_of es)
      → AllByRecursion (λ names. groups_cmp groups names ≡ Less) (keys_of (sets_shown es))
  after_shown groups [] all = tt
  after_shown groups (e ∷ es) all = (all.0, after_shown groups es all.1)

  sorted_shown : (es : List (Vec (List ℕ) A × X)) → IsStrictlySortedBy (λ x y. groups_cmp x.items y.items) (keys_of es)
      → IsStrictlySortedBy groups_cmp (keys_of (sets_shown es))
  unfolding IsStrictlySortedBy
  sorted_shown [] sorted = tt
  sorted_shown (e ∷ es) sorted = (after_shown e.0.items es sorted.0, sorted_shown es sorted.1)

  same_values : (es : List (Vec (List ℕ) A × X)) → values_of es ≡ values_of (sets_shown es)
  same_values [] = refl
  same_values (e ∷ es) = ap (λ sets. e.1 ∷ sets) (same_values es)

  -- the values of sorted entries are those of the map that they make
  pub values_are : (es : List (Vec (List ℕ) A × X)) (sets : map.FinMap groups_cmp X)
      → IsStrictlySortedBy (λ x y. groups_cmp x.items y.items) (keys_of es) → map.from_entries (sets_shown es) ≡ sets
      → values_of es ≡ map.values sets
  values_are es sets sorted is =
      same_values es ∙ ap values_of (sym (entries_in_order groups_total groups_exact (sets_shown es) (sorted_shown es sorted)))
      ∙ ap map.values is

-- ---- one page more

-- sets of groups by their names
abbrev pub SetMap : Type 0
SetMap = map.FinMap groups_cmp GroupSet

-- just those sets stand that pages have, each with how many do
abbrev pub AreSums : SetMap → (List (List ℕ) → ℕ) → Type 0
AreSums sets number = (groups : List (List ℕ)) → map.get sets groups ≡ set_of groups (number groups)

pub more_itself : (groups : List (List ℕ)) (number : List (List ℕ) → ℕ) → one_more groups number groups ≡ suc (number groups)
more_itself groups number = ap (λ b. cond b 1 0 + number groups) (groups_itself groups) ∙ (omega arith)

pub more_other : (groups others : List (List ℕ)) (number : List (List ℕ) → ℕ) → same_groups others groups ≡ false
    → one_more groups number others ≡ number others
more_other groups others number e = ap (λ b. cond b 1 0 + number others) e ∙ (omega arith)

-- counts that change at one set
changed : (sets new : SetMap) (number numbers : List (List ℕ) → ℕ) (groups : List (List ℕ)) (set : Option GroupSet) → AreSums sets number
    → ((others : List (List ℕ)) → map.get new others ≡ cond (same_groups others groups) set (map.get sets others))
    → set ≡ set_of groups (numbers groups)
    → ((others : List (List ℕ)) → same_groups others groups ≡ false → number others ≡ numbers others) → AreSums new numbers
changed sets new number numbers groups set counts is here there others = is others ∙ by (same_groups others groups) refl
  where
    by : (b : Bool) → same_groups others groups ≡ b → cond b set (map.get sets others) ≡ set_of others (numbers others)
    by true e = here ∙ ap (λ g. set_of g (numbers g)) (sym (groups_from others groups e))
    by false e = counts others ∙ ap (set_of others) (there others e)

-- ---- how many pages are seen

nothing : {X : Type 0} (xs : List X) → length xs ≡ 0 → xs ≡ []
nothing [] e = refl
nothing (x ∷ xs) is = absurd (omega arith)

pub no_values : {K X : Type 0} (R : K → K → Ordering) → map.values (map.empty {X = X} {R = R}) ≡ []
no_values {X = X} R = ap values_of (nothing (map.entries (map.empty {X = X} {R = R}))
    (sym (map.len-entries (map.empty {X = X} {R = R})) ∙ map.len-empty R X))

no_sets : (sets : SetMap) → ((groups : List (List ℕ)) → map.get sets groups ≡ None) → map.values sets ≡ []
no_sets sets none =
    ap map.values (map.same_map groups_total groups_exact sets map.empty (λ g. none g ∙ sym (map.get-empty groups_cmp g)))
    ∙ no_values groups_cmp

module _ (ours : List (List ℕ)) where
  seen_in : SetMap → ℕ
  seen_in sets = sum_by (number_met ours) (map.values sets)

  -- the sets without one page of these groups, of which so many are left
  lowered : SetMap → List (List ℕ) → ℕ → SetMap
  lowered sets groups zero = map.remove sets groups
  lowered sets groups (suc n) = map.insert sets groups (record { groups = groups; pages = suc n })

  lowered_counts : (sets : SetMap) (groups : List (List ℕ)) (number : List (List ℕ) → ℕ) (n : ℕ) → number groups ≡ n
      → AreSums sets (one_more groups number) → AreSums (lowered sets groups n) number
  unfolding lowered
  lowered_counts sets groups number zero is counts =
      changed sets (map.remove sets groups) (one_more groups number) number groups None counts
      (map.get-remove groups_total sets groups) (ap (set_of groups) (sym is)) (λ others e. more_other groups others number e)
  lowered_counts sets groups number (suc n) is counts =
      let set : GroupSet = record { groups = groups; pages = suc n } in
      changed sets (map.insert sets groups set) (one_more groups number) number groups (Some set) counts
      (map.get-insert groups_total sets groups set) (ap (set_of groups) (sym is)) (λ others e. more_other groups others number e)

  rest_seen : (sets : SetMap) (groups : List (List ℕ)) (n : ℕ)
      → seen_in (lowered sets groups n) ≡ cond (meet ours groups) n 0 + seen_in (map.remove sets groups)
  unfolding lowered seen_in
  rest_seen sets groups zero = by (meet ours groups)
    where
      by : (b : Bool) → sum_by (number_met ours) (map.values (map.remove sets groups))
          ≡ cond b 0 0 + sum_by (number_met ours) (map.values (map.remove sets groups))
      by true = omega arith
      by false = omega arith
  rest_seen sets groups (suc n) =
      sum_set groups_total groups_exact (number_met ours) sets groups (record { groups = groups; pages = suc n })

  one_seen : (sets : SetMap) (groups : List (List ℕ)) (n : ℕ) → map.get sets groups ≡ set_of groups (suc n)
      → seen_in sets ≡ cond (meet ours groups) 1 0 + seen_in (lowered sets groups n)
  unfolding seen_in
  one_seen sets groups n stands =
      sum_taken groups_total groups_exact (number_met ours) sets groups (record { groups = groups; pages = suc n }) stands
      ∙ by (meet ours groups) (seen_in (map.remove sets groups))
      ∙ ap (λ s. cond (meet ours groups) 1 0 + s) (sym (rest_seen sets groups n))
    where
      by : (b : Bool) (s : ℕ) → cond b (suc n) 0 + s ≡ cond b 1 0 + (cond b n 0 + s)
      by true s = omega arith
      by false s = omega arith

  seen_counted : (pages : List StampedPage) (sets : SetMap) → AreSums sets (number_with pages)
      → seen_in sets ≡ length (filter (λ page. meet ours page.page.groups) pages)
  unfolding seen_in
  seen_counted [] sets counts = ap (sum_by (number_met ours)) (no_sets sets (λ g. counts g))
  seen_counted (page ∷ pages) sets counts =
      let groups = page.page.groups in
      let number = number_with pages in
      let more : AreSums sets (one_more groups number) = λ g.
      counts g ∙ ap (set_of g) (sum_by-cons (λ p. cond (same_groups g p.page.groups) 1 0) page pages) in
      one_seen sets groups (number groups) (more groups ∙ ap (set_of groups) (more_itself groups number))
      ∙ ap (λ s. cond (meet ours groups) 1 0 + s)
      (seen_counted pages (lowered sets groups (number groups)) (lowered_counts sets groups number (number groups) refl more))
      ∙ by (meet ours groups) (filter (λ p. meet ours p.page.groups) pages)
    where
      by : (b : Bool) (some : List StampedPage) → cond b 1 0 + length some ≡ length (cond b (page ∷ some) some)
      by true some = omega arith
      by false some = omega arith

  -- those pages are seen whose groups meet the reader's
  pub met_counted : (pages : List StampedPage) (sets : SetMap) → AreSums sets (number_with pages)
      → sum_by (number_met ours) (map.values sets) ≡ length (filter (λ page. meet ours page.page.groups) pages)
  unfolding seen_in
  met_counted = seen_counted
