-- What a search finds among pairs in the order of their first numbers, and what an edit at that place does.
use Rattle.std.proofs.Common.{◌≡◌, ℕ, zero, suc, ◌+◌, ◌<◌, ◌≤◌, List, [], ◌∷◌, Bool, true, false, cond, not, T, length, get_or, set, is_eq, is_lt, refl, ap, sym, subst, ◌∙◌, arith}
use Rattle.std.specs.Prelude.{Some, None, Result, Ok, Err, OnOk, OnErr, insert, remove}
use Rattle.std.specs.Cmp.{eq_by_cmp_equiv}
use Rattle.std.specs.FinMap as map
use Rattle.std.specs.FinMap.Entries.{by_order, find-where_key, is_sorted-put, is_sorted-where_key}
use Rattle.std.specs.List.{AllByRecursion, AllWithin, HoldsAt}
use Rattle.std.specs.List.Sorted.{IsNonDecreasingBy, IsPartitionPoint, IsSortedBy, IsStrictlySortedBy}
use Rattle.std.specs.Map.{keys_of}
use Rattle.std.specs.Ordering.{eq_by_cmp, nat_cmp, ordering_index, ordering_reverse}
use Rattle.std.specs.declared.cmp.Ordering.TheVariants.{Less, Equal, Greater}
use Rattle.std.proofs.lemmas.Cmp.{nat_cmp_total}
use Rattle.std.proofs.lemmas.List.Sorted.{searchable_from_sorted}
use Rattle.std.proofs.lemmas.Map.Lookups.{exact_unsigned}
use Rattle.doc_page_parts.proofs.Maps.{find_before, is_sorted_keys}
use Rattle.doc_page_parts.proofs.Orders.{is_eq_true}
use Rattle.doc_index_tables.specs.Blocks.{without}
use Rattle.doc_index_tables.specs.Maps.{NumberMap}

abbrev pub IsInOrder : List (ℕ × ℕ) → Type 0
IsInOrder es = T (map.is_sorted nat_cmp es)

turned : (x y : ℕ) → nat_cmp x y ≡ Less → nat_cmp y x ≡ Greater
turned x y less = nat_cmp_total.antisymm y x ∙ ap ordering_reverse less

turned_back : (x y : ℕ) → nat_cmp x y ≡ Greater → nat_cmp y x ≡ Less
turned_back x y greater = nat_cmp_total.antisymm y x ∙ ap ordering_reverse greater

-- no pair before the place has a number as high as k, and the one there has k
abbrev IsAt : ℕ → List (ℕ × ℕ) → ℕ → Type 0
IsAt k [] i = ⊥
IsAt k (e ∷ es) zero = nat_cmp k e.0 ≡ Equal
IsAt k (e ∷ es) (suc i) = (nat_cmp k e.0 ≡ Greater) × IsAt k es i

-- each pair before the place has a number below k, and each from there on one above
abbrev IsGap : ℕ → List (ℕ × ℕ) → ℕ → Type 0
IsGap k es zero = AllByRecursion (λ y. nat_cmp k y ≡ Less) (keys_of es)
IsGap k [] (suc i) = ⊥
IsGap k (e ∷ es) (suc i) = (nat_cmp k e.0 ≡ Greater) × IsGap k es i

rises : (es : List (ℕ × ℕ)) → IsStrictlySortedBy nat_cmp (keys_of es) → IsSortedBy (λ a b. is_lt (nat_cmp a.0 b.0)) es
unfolding IsStrictlySortedBy
rises [] sorted k d low high = absurd (omega (arith, high))
rises (e ∷ []) sorted k d low high = absurd (omega (arith, high))
rises (e ∷ f ∷ es) sorted zero d low high = ap is_lt (turned e.0 f.0 sorted.0.0)
rises (e ∷ f ∷ es) sorted (suc k) d low high =
    let next : suc k + 1 ≡ suc (k + 1) = omega arith in
    subst (λ j. is_lt (nat_cmp (get_or (e ∷ f ∷ es) j d).0 (get_or (e ∷ f ∷ es) (suc k) d).0) ≡ false) (sym next)
    (rises (f ∷ es) sorted.1 k d (omega arith) (omega (arith, high)))

above_at : (P : ℕ → Type 0) (es : List (ℕ × ℕ)) (i : ℕ) (d : ℕ × ℕ) → AllByRecursion P (keys_of es) → i < length es → P (get_or es i d).0
above_at P [] i d all within = absurd (omega (arith, within))
above_at P (e ∷ es) zero d all within = all.0
above_at P (e ∷ es) (suc i) d all within = above_at P es i d all.1 (omega (arith, within))

at_from : (k : ℕ) (es : List (ℕ × ℕ)) (i : ℕ) → IsStrictlySortedBy nat_cmp (keys_of es) → i < length es
    → HoldsAt (λ e. nat_cmp e.0 k ≡ Equal) es i → IsAt k es i
unfolding IsStrictlySortedBy
at_from k [] i sorted within at = absurd (omega (arith, within))
at_from k (e ∷ es) zero sorted within at = nat_cmp_total.antisymm k e.0 ∙ ap ordering_reverse (at e)
at_from k (e ∷ es) (suc i) sorted within at =
    let lower : i < length es = omega (arith, within) in
    let same : (get_or es i e).0 ≡ k = exact_unsigned (get_or es i e).0 k (at e) in (
      turned e.0 k (subst (λ x. nat_cmp e.0 x ≡ Less) same (above_at (λ y. nat_cmp e.0 y ≡ Less) es i e sorted.0 lower)),
      at_from k es i sorted.1 lower at,
    )

all_above : (k : ℕ) (es : List (ℕ × ℕ)) → AllWithin (λ e. nat_cmp e.0 k ≡ Greater) es 0 (length es)
    → AllByRecursion (λ y. nat_cmp k y ≡ Less) (keys_of es)
all_above k [] above = tt
all_above k (e ∷ es) above = (
  turned_back e.0 k (above 0 e (omega arith) (omega arith)),
  all_above k es (λ j d low high. above (suc j) d (omega arith) (omega (arith, high))),
)

gap_from : (k : ℕ) (es : List (ℕ × ℕ)) (i : ℕ) → i ≤ length es
    → AllWithin (λ e. nat_cmp e.0 k ≡ Less) es 0 i → AllWithin (λ e. nat_cmp e.0 k ≡ Greater) es i (length es) → IsGap k es i
gap_from k es zero within below above = all_above k es above
gap_from k [] (suc i) within below above = absurd (omega (arith, within))
gap_from k (e ∷ es) (suc i) within below above = (
  turned e.0 k (below 0 e (omega arith) (omega arith)),
  gap_from k es i (omega (arith, within)) (λ j d low high. below (suc j) d (omega arith) (omega (arith, high)))
      (λ j d low high. above (suc j) d (omega (arith, low)) (omega (arith, high))),
)

find_at : (k : ℕ) (es : List (ℕ × ℕ)) (i : ℕ) (d : ℕ × ℕ) → IsAt k es i → map.find nat_cmp k es ≡ Some (get_or es i d).1
find_at k [] i d at = absurd at
find_at k (e ∷ es) zero d at = ap (λ o. cond (is_eq o) (Some e.1) (map.find nat_cmp k es)) at
find_at k (e ∷ es) (suc i) d at = ap (λ o. cond (is_eq o) (Some e.1) (map.find nat_cmp k es)) at.0 ∙ find_at k es i d at.1

find_gap : (k : ℕ) (es : List (ℕ × ℕ)) (i : ℕ) → IsGap k es i → map.find nat_cmp k es ≡ None
find_gap k es zero gap = find_before nat_cmp k es gap
find_gap k [] (suc i) gap = absurd gap
find_gap k (e ∷ es) (suc i) gap = ap (λ o. cond (is_eq o) (Some e.1) (map.find nat_cmp k es)) gap.0 ∙ find_gap k es i gap.1

-- a pair set or inserted at its place is put there as a map puts it
set_at : (k v : ℕ) (es : List (ℕ × ℕ)) (i : ℕ) → IsAt k es i → set es i (k, v) ≡ map.put nat_cmp k v es
set_at k v [] i at = absurd at
set_at k v (e ∷ es) zero at =
    ap (λ n. (n, v) ∷ es) (exact_unsigned k e.0 at)
    ∙ ap (λ o. by_order o ((k, v) ∷ e ∷ es) ((e.0, v) ∷ es) (e ∷ map.put nat_cmp k v es)) (sym at)
set_at k v (e ∷ es) (suc i) at =
    ap (λ fs. e ∷ fs) (set_at k v es i at.1)
    ∙ ap (λ o. by_order o ((k, v) ∷ e ∷ es) ((e.0, v) ∷ es) (e ∷ map.put nat_cmp k v es)) (sym at.0)

inserted_at : (k v : ℕ) (es : List (ℕ × ℕ)) (i : ℕ) → IsGap k es i → insert es i (k, v) ≡ map.put nat_cmp k v es
inserted_at k v [] zero gap = refl
inserted_at k v (e ∷ es) zero gap =
    ap (λ o. by_order o ((k, v) ∷ e ∷ es) ((e.0, v) ∷ es) (e ∷ map.put nat_cmp k v es)) (sym gap.0)
inserted_at k v [] (suc i) gap = absurd gap
inserted_at k v (e ∷ es) (suc i) gap =
    ap (λ fs. e ∷ fs) (inserted_at k v es i gap.1)
    ∙ ap (λ o. by_order o ((k, v) ∷ e ∷ es) ((e.0, v) ∷ es) (e ∷ map.put nat_cmp k v es)) (sym gap.0)

-- the pairs with another number than k
all_others : (k : ℕ) (es : List (ℕ × ℕ)) → AllByRecursion (λ y. nat_cmp k y ≡ Less) (keys_of es) → without k es ≡ es
all_others k [] above = refl
all_others k (e ∷ es) above =
    ap (λ o. cond (not (is_eq o)) (e ∷ without k es) (without k es)) above.0 ∙ ap (λ fs. e ∷ fs) (all_others k es above.1)

removed_at : (k : ℕ) (es : List (ℕ × ℕ)) (i : ℕ) → IsStrictlySortedBy nat_cmp (keys_of es) → IsAt k es i → remove es i ≡ without k es
unfolding IsStrictlySortedBy
removed_at k [] i sorted at = absurd at
removed_at k (e ∷ es) zero sorted at =
    sym (ap (λ o. cond (not (is_eq o)) (e ∷ without k es) (without k es)) at
    ∙ all_others k es (subst (λ x. AllByRecursion (λ y. nat_cmp x y ≡ Less) (keys_of es)) (sym (exact_unsigned k e.0 at)) sorted.0))
removed_at k (e ∷ es) (suc i) sorted at =
    ap (λ fs. e ∷ fs) (removed_at k es i sorted.1 at.1)
    ∙ ap (λ o. cond (not (is_eq o)) (e ∷ without k es) (without k es)) (sym at.0)

other_way : {A : Type 0} (b : Bool) (x y : A) → cond (not b) x y ≡ cond b y x
other_way true x y = refl
other_way false x y = refl

-- a number that has none is taken away
pub none_removed : (m : NumberMap ℕ) (k : ℕ) → map.get m k ≡ None → map.remove m k ≡ m
none_removed m k none = map.same_map nat_cmp_total exact_unsigned _ _ (λ q.
    map.get-remove nat_cmp_total m k q ∙ by q (eq_by_cmp nat_cmp q k) refl)
  where
    by : (q : ℕ) (b : Bool) → eq_by_cmp nat_cmp q k ≡ b → cond b None (map.get m q) ≡ map.get m q
    by q true e = sym (ap (map.get m) (exact_unsigned q k (is_eq_true (nat_cmp q k) e)) ∙ none)
    by q false e = refl

module _ (es : List (ℕ × ℕ)) (sorted : IsInOrder es) (m : NumberMap ℕ) (is : map.from_sorted es ≡ m) where
  pub entries_are : map.entries m ≡ es
  entries_are = ap map.entries (sym is) ∙ map.entries-from_sorted nat_cmp es sorted

  pub found_in : (k : ℕ) → map.find nat_cmp k es ≡ map.get m k
  found_in k = sym (map.get-from_sorted nat_cmp es k sorted) ∙ ap (λ n. map.get n k) is

  pub put_in : (k v : ℕ) (fs : List (ℕ × ℕ)) → fs ≡ map.put nat_cmp k v es → IsInOrder fs × (map.from_sorted fs ≡ map.insert m k v)
  put_in k v fs put =
      let order : IsInOrder fs = subst IsInOrder (sym put) (is_sorted-put nat_cmp nat_cmp_total k v es sorted) in (
        order,
        map.same_entries_map _ _ (map.entries-from_sorted nat_cmp fs order ∙ put
            ∙ sym (map.entries-insert nat_cmp_total m k v ∙ ap (map.put nat_cmp k v) entries_are)),
      )

  pub without_in : (k : ℕ) (fs : List (ℕ × ℕ)) → fs ≡ without k es → IsInOrder fs × (map.from_sorted fs ≡ map.remove m k)
  without_in k fs left =
      let order : IsInOrder fs =
      subst IsInOrder (sym left) (is_sorted-where_key nat_cmp (λ x. not (eq_by_cmp nat_cmp k x)) es sorted) in (
        order,
        map.same_map nat_cmp_total exact_unsigned _ _ (λ q.
            map.get-from_sorted nat_cmp fs q order ∙ ap (map.find nat_cmp q) left
            ∙ find-where_key nat_cmp (λ x. not (eq_by_cmp nat_cmp k x)) q
            (λ x tied. ap (λ y. not (eq_by_cmp nat_cmp k y)) (sym (exact_unsigned q x tied))) es
            ∙ other_way (eq_by_cmp nat_cmp k q) (map.find nat_cmp q es) None
            ∙ ap (λ b. cond b None (map.find nat_cmp q es)) ((eq_by_cmp_equiv nat_cmp_total).symm k q)
            ∙ ap (cond (eq_by_cmp nat_cmp q k) None) (found_in q) ∙ sym (map.get-remove nat_cmp_total m k q)),
      )

  -- a number whose place a search found
  module _ (k i : ℕ) (within : i < length es) (at : HoldsAt (λ e. nat_cmp e.0 k ≡ Equal) es i) where
    stands : IsAt k es i
    stands = at_from k es i (is_sorted_keys nat_cmp es sorted) within at

    pub got_at : (d : ℕ × ℕ) → map.get m k ≡ Some (get_or es i d).1
    got_at d = sym (found_in k) ∙ find_at k es i d stands

    pub set_in : (v : ℕ) → IsInOrder (set es i (k, v)) × (map.from_sorted (set es i (k, v)) ≡ map.insert m k v)
    set_in v = put_in k v (set es i (k, v)) (set_at k v es i stands)

    pub removed_in : IsInOrder (remove es i) × (map.from_sorted (remove es i) ≡ map.remove m k)
    removed_in = without_in k (remove es i) (removed_at k es i (is_sorted_keys nat_cmp es sorted) stands)

  -- a number that a search didn't find
  module _ (k i : ℕ) (within : i ≤ length es)
      (parts : IsNonDecreasingBy (λ e. ordering_index (nat_cmp e.0 k)) es
      → IsPartitionPoint (λ e. nat_cmp e.0 k ≡ Less) (λ e. nat_cmp e.0 k ≡ Greater) es i) where
    lacks : IsGap k es i
    lacks =
        let parted = parts (searchable_from_sorted nat_cmp_total (λ e. e.0) es k (rises es (is_sorted_keys nat_cmp es sorted))) in
        gap_from k es i within parted.0 parted.1

    pub got_none : map.get m k ≡ None
    got_none = sym (found_in k) ∙ find_gap k es i lacks

    pub inserted_in : (v : ℕ) → IsInOrder (insert es i (k, v)) × (map.from_sorted (insert es i (k, v)) ≡ map.insert m k v)
    inserted_in v = put_in k v (insert es i (k, v)) (inserted_at k v es i lacks)

    pub nothing_removed : map.remove m k ≡ m
    nothing_removed = none_removed m k got_none

-- what holds after a success and after a refusal
pub either_way : {X E P Q R : Type 0} (r : Result X E) → OnOk r P → OnErr r Q → (P → R) → (Q → R) → R
either_way (Ok x) ok err f g = f ok
either_way (Err x) ok err f g = g err

-- an empty row
pub none_yet : (es : List (ℕ × ℕ)) → es ≡ [] → IsInOrder es × (map.from_sorted es ≡ map.empty {R = nat_cmp})
none_yet es none =
    let order : IsInOrder es = subst IsInOrder (sym none) tt in (
      order,
      map.same_map nat_cmp_total exact_unsigned _ _ (λ q.
          map.get-from_sorted nat_cmp es q order ∙ ap (map.find nat_cmp q) none ∙ sym (map.get-empty nat_cmp q)),
    )
