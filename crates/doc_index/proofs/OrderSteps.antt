-- An order of slots: what a search in it finds, and what it has once a slot is inserted or removed.
use Rattle.std.proofs.Common.{◌≡◌, ◌≢◌, ◌<◌, ◌≤◌, ◌-◌, ◌∙◌, ℕ, zero, suc, List, [], ◌∷◌, Bool, true, false, cond, not, length, get_or, insert, remove, is_some, is_eq, refl, ap, ap₂, sym, subst, arith}
use Rattle.std.specs.Prelude.{IfOk, IsTrue, Result, Ok, Err, Option, Some, None, map as mapped}
use Rattle.std.specs.Cmp.{eq_by_cmp_equiv}
use Rattle.std.specs.FinMap as map
use Rattle.std.specs.FinMap.Entries.{by_order, find-where_key, is_sorted-where_key, same_entries, where_key}
use Rattle.std.specs.List.{AllByRecursion, AllWithin, HoldsAt}
use Rattle.std.specs.List.Sorted.{IsNonDecreasingBy, IsPartitionPoint, IsStrictlySortedBy}
use Rattle.std.specs.Map.{keys_of}
use Rattle.std.specs.Ordering.{ordering_index, ordering_reverse}
use Rattle.std.specs.declared.cmp.Ordering.{Ordering}
use Rattle.std.specs.declared.cmp.Ordering.TheVariants.{Less, Equal, Greater}
use Rattle.std.proofs.lemmas.Option.{same_Some}
use Rattle.doc_page_parts.proofs.Options.{is_some_true}
use Rattle.doc_index.specs.declared.held.Held.{Held}
use Rattle.doc_index.specs.Held.{Known, entries_of, known, slot_at}
use Rattle.doc_index.specs.IndexSteps.{compared}
use Rattle.doc_index_tables.specs.Maps.{pair_cmp}
use Rattle.doc_index_tables.specs.TableSteps.{same_number}
use Rattle.doc_index_tables.proofs.CountSteps.{number_is}
use Rattle.doc_index_tables.proofs.PairSteps.{pair_is, pair_itself, pairs_exact, pairs_total, same_pair}
use Rattle.doc_index.proofs.HeldSteps.{not_same, pair_of}

pub told : {X E : Type 0} {P Q : X → Type 0} (r : Result X E) → ((x : X) → P x → Q x) → IfOk r P → IfOk r Q
told (Ok x) f h = f x h
told (Err e) f h = tt

-- where the last is less, each is
least : (o : Ordering) → ordering_index o ≤ 0 → o ≡ Less
least Less e = refl
least Equal e = absurd (omega (arith, e))
least Greater e = absurd (omega (arith, e))

pub all_less : {X : Type 0} (ord : X → Ordering) (xs : List X) → 0 < length xs → HoldsAt (λ x. ord x ≡ Less) xs (length xs - 1)
    → IsNonDecreasingBy (λ x. ordering_index (ord x)) xs → IsPartitionPoint (λ x. ord x ≡ Less) (λ x. ord x ≡ Greater) xs (length xs)
all_less ord xs some last rises = (
  λ k d low high. least (ord (get_or xs k d)) (subst (λ o. ordering_index (ord (get_or xs k d)) ≤ ordering_index o) (last d)
      (rises k (length xs - 1) d (omega (arith, high)) (omega (arith, some)))),
  λ k d low high. absurd (omega (arith, low, high)),
)

turned : (p q : List ℕ × ℕ) (o : Ordering) → pair_cmp p q ≡ o → pair_cmp q p ≡ ordering_reverse o
turned p q o e = pairs_total.antisymm q p ∙ ap ordering_reverse e

-- what comes before another stands no further behind a third
no_further : (p q r : List ℕ × ℕ) → pair_cmp p q ≡ Less → (o : Ordering) → pair_cmp q r ≡ o
    → ordering_index (pair_cmp p r) ≤ ordering_index o
no_further p q r less Less e = omega (arith, ap ordering_index (pairs_total.trans p q r less e))
no_further p q r less Equal e = omega (arith, ap ordering_index (ap (pair_cmp p) (sym (pairs_exact q r e)) ∙ less))
no_further p q r less Greater e = by (pair_cmp p r)
  where
    by : (o : Ordering) → ordering_index o ≤ 2
    by Less = omega arith
    by Equal = omega arith
    by Greater = omega arith

other_way : {X : Type 0} (b : Bool) (x y : X) → cond (not b) x y ≡ cond b y x
other_way true x y = refl
other_way false x y = refl

module _ {A : Type 0} where
  -- where there are as many entries as slots, each has a page
  fewer : (slots : List (Option (Held A))) (order : List ℕ) → length (entries_of (mapped (slot_at slots) order)) ≤ length order
  fewer slots [] = omega arith
  fewer slots (i ∷ order) = by (slot_at slots i) (fewer slots order)
    where
      by : (x : Option (Held A)) → length (entries_of (mapped (slot_at slots) order)) ≤ length order
          → length (entries_of (x ∷ mapped (slot_at slots) order)) ≤ suc (length order)
      by None rest = omega (arith, rest)
      by (Some page) rest = omega (arith, rest)

  pub all_present : (slots : List (Option (Held A))) (order : List ℕ) → length order ≤ length (entries_of (mapped (slot_at slots) order))
      → AllByRecursion (λ i. IsTrue (is_some (slot_at slots i))) order
  all_present slots [] e = tt
  all_present slots (i ∷ order) e = by (slot_at slots i) refl e (all_present slots order)
    where
      by : (x : Option (Held A)) → slot_at slots i ≡ x → suc (length order) ≤ length (entries_of (x ∷ mapped (slot_at slots) order))
          → (length order ≤ length (entries_of (mapped (slot_at slots) order))
          → AllByRecursion (λ j. IsTrue (is_some (slot_at slots j))) order)
          → IsTrue (is_some (slot_at slots i)) × AllByRecursion (λ j. IsTrue (is_some (slot_at slots j))) order
      by None at e rest = absurd (omega (arith, e, fewer slots order))
      by (Some page) at e rest = (ap is_some at, rest (omega (arith, e)))

  pub equal_is : (x : Option (Held A)) (q : List ℕ × ℕ) → compared x q ≡ Equal → (page : Held A) × (x ≡ Some page) × (pair_of page ≡ q)
  equal_is None q e = absurd cc
  equal_is (Some page) q e = (page, refl, pairs_exact (pair_of page) q e)

module _ {A : Type 0} (slots : List (Option (Held A))) where
  abbrev pub along : List ℕ → List ((List ℕ × ℕ) × Known A)
  along order = entries_of (mapped (slot_at slots) order)

  abbrev pub HavePages : List ℕ → Type 0
  HavePages order = AllByRecursion (λ i. IsTrue (is_some (slot_at slots i))) order

  abbrev pub order_of : List ℕ × ℕ → ℕ → Ordering
  order_of q i = compared (slot_at slots i) q

  abbrev entry : Held A → (List ℕ × ℕ) × Known A
  entry page = (pair_of page, known page)

  -- a page with entries behind it
  first_along : (i : ℕ) (order : List ℕ) (page : Held A) → slot_at slots i ≡ Some page → along (i ∷ order) ≡ entry page ∷ along order
  first_along i order page at = ap (λ o. entries_of (o ∷ mapped (slot_at slots) order)) at

  -- along an order pages never fall behind
  below : (q k : List ℕ × ℕ) (order : List ℕ) → HavePages order → AllByRecursion (λ y. pair_cmp k y ≡ Less) (keys_of (along order))
      → (j d : ℕ) → j < length order → ordering_index (pair_cmp k q) ≤ ordering_index (order_of q (get_or order j d))
  below q k [] present less j d within = absurd (omega (arith, within))
  below q k (i ∷ order) present less j d within =
      let there = is_some_true (slot_at slots i) present.0 in
      let all = subst (λ es. AllByRecursion (λ y. pair_cmp k y ≡ Less) (keys_of es)) (first_along i order there.0 there.1) less in
      by there.0 there.1 all.0 j within (below q k order present.1 all.1)
    where
      by : (page : Held A) → slot_at slots i ≡ Some page → pair_cmp k (pair_of page) ≡ Less → (j : ℕ) → j < suc (length order)
          → ((j d : ℕ) → j < length order → ordering_index (pair_cmp k q) ≤ ordering_index (order_of q (get_or order j d)))
          → ordering_index (pair_cmp k q) ≤ ordering_index (order_of q (get_or (i ∷ order) j d))
      by page at first zero within rest =
          subst (λ o. ordering_index (pair_cmp k q) ≤ ordering_index (compared o q)) (sym at)
          (no_further k (pair_of page) q first (pair_cmp (pair_of page) q) refl)
      by page at first (suc j) within rest = rest j d (omega (arith, within))

  pub rises : (q : List ℕ × ℕ) (order : List ℕ) → HavePages order → IsStrictlySortedBy pair_cmp (keys_of (along order))
      → IsNonDecreasingBy (λ i. ordering_index (order_of q i)) order
  unfolding IsStrictlySortedBy
  rises q [] present sorted i j d low within = absurd (omega (arith, within))
  rises q (first ∷ order) present sorted i j d low within =
      let there = is_some_true (slot_at slots first) present.0 in
      let all = subst (λ es. IsStrictlySortedBy pair_cmp (keys_of es)) (first_along first order there.0 there.1) sorted in
      by there.0 there.1 all.0 i j low within (rises q order present.1 all.1)
    where
      by : (page : Held A) → slot_at slots first ≡ Some page → AllByRecursion (λ y. pair_cmp (pair_of page) y ≡ Less) (keys_of (along order))
          → (i j : ℕ) → i ≤ j → j < suc (length order) → IsNonDecreasingBy (λ i. ordering_index (order_of q i)) order
          → ordering_index (order_of q (get_or (first ∷ order) i d)) ≤ ordering_index (order_of q (get_or (first ∷ order) j d))
      by page at less zero zero low within rest = omega arith
      by page at less zero (suc j) low within rest =
          subst (λ o. ordering_index (compared o q) ≤ ordering_index (order_of q (get_or order j d))) (sym at)
          (below q (pair_of page) order present.1 less j d (omega (arith, within)))
      by page at less (suc i) zero low within rest = absurd (omega (arith, low))
      by page at less (suc i) (suc j) low within rest = rest i j d (omega (arith, low)) (omega (arith, within))

  -- each page before the place comes before the pair, and each from there on behind it
  abbrev pub IsGap : List ℕ × ℕ → List ℕ → ℕ → Type 0
  IsGap q order zero = AllByRecursion (λ i. order_of q i ≡ Greater) order
  IsGap q [] (suc at) = ⊥
  IsGap q (i ∷ order) (suc at) = (order_of q i ≡ Less) × IsGap q order at

  all_behind : (q : List ℕ × ℕ) (order : List ℕ) → AllWithin (λ i. order_of q i ≡ Greater) order 0 (length order)
      → AllByRecursion (λ i. order_of q i ≡ Greater) order
  all_behind q [] behind = tt
  all_behind q (i ∷ order) behind = (
    behind 0 i (omega arith) (omega arith),
    all_behind q order (λ j d low high. behind (suc j) d (omega arith) (omega (arith, high))),
  )

  pub gap_from : (q : List ℕ × ℕ) (order : List ℕ) (at : ℕ) → at ≤ length order
      → AllWithin (λ i. order_of q i ≡ Less) order 0 at → AllWithin (λ i. order_of q i ≡ Greater) order at (length order)
      → IsGap q order at
  gap_from q order zero within before behind = all_behind q order behind
  gap_from q [] (suc at) within before behind = absurd (omega (arith, within))
  gap_from q (i ∷ order) (suc at) within before behind = (
    before 0 i (omega arith) (omega arith),
    gap_from q order at (omega (arith, within)) (λ j d low high. before (suc j) d (omega arith) (omega (arith, high)))
        (λ j d low high. behind (suc j) d (omega (arith, low)) (omega (arith, high))),
  )

  -- what comes before a page or behind it is not that page's
  passed : (q : List ℕ × ℕ) (i : ℕ) (order : List ℕ) (o : Ordering) → HavePages (i ∷ order) → order_of q i ≡ o → is_eq (ordering_reverse o) ≡ false
      → map.find pair_cmp q (along order) ≡ None → map.find pair_cmp q (along (i ∷ order)) ≡ None
  passed q i order o present is other none =
      let there = is_some_true (slot_at slots i) present.0 in
      let turned_is = turned (pair_of there.0) q o (ap (λ x. compared x q) (sym there.1) ∙ is) in
      ap (map.find pair_cmp q) (first_along i order there.0 there.1)
      ∙ ap (λ b. cond b (Some (known there.0)) (map.find pair_cmp q (along order))) (ap is_eq turned_is ∙ other)
      ∙ none

  pub find_gap : (q : List ℕ × ℕ) (order : List ℕ) (at : ℕ) → HavePages order → IsGap q order at → map.find pair_cmp q (along order) ≡ None
  find_gap q [] zero present gap = refl
  find_gap q (i ∷ order) zero present gap = passed q i order Greater present gap.0 refl (find_gap q order zero present.1 gap.1)
  find_gap q [] (suc at) present gap = absurd gap
  find_gap q (i ∷ order) (suc at) present gap = passed q i order Less present gap.0 refl (find_gap q order at present.1 gap.1)

  -- a slot with a page is inserted at the place of its pair
  module _ (after : List (Option (Held A))) (v : ℕ) (page : Held A) (there : slot_at after v ≡ Some page)
      (stays : (i : ℕ) (other : Held A) → slot_at slots i ≡ Some other → slot_at after i ≡ Some other) where
    same_along : (order : List ℕ) → HavePages order → mapped (slot_at after) order ≡ mapped (slot_at slots) order
    same_along [] present = refl
    same_along (i ∷ order) present =
        let old = is_some_true (slot_at slots i) present.0 in
        ap₂ (λ o os. o ∷ os) (stays i old.0 old.1 ∙ sym old.1) (same_along order present.1)

    put_before : (order : List ℕ) (at : ℕ) → HavePages order → AllByRecursion (λ i. order_of (pair_of page) i ≡ Greater) order
        → entry page ∷ along order ≡ map.put pair_cmp (pair_of page) (known page) (along order)
    put_before [] at present behind = refl
    put_before (i ∷ order) at present behind =
        let old = is_some_true (slot_at slots i) present.0 in
        let less = turned (pair_of old.0) (pair_of page) Greater (ap (λ x. compared x (pair_of page)) (sym old.1) ∙ behind.0) in
        ap (λ es. entry page ∷ es) (first_along i order old.0 old.1)
        ∙ ap (λ o. by_order o (entry page ∷ entry old.0 ∷ along order) ((pair_of old.0, known page) ∷ along order)
        (entry old.0 ∷ map.put pair_cmp (pair_of page) (known page) (along order))) (sym less)
        ∙ ap (map.put pair_cmp (pair_of page) (known page)) (sym (first_along i order old.0 old.1))

    pub put_gap : (order : List ℕ) (at : ℕ) → HavePages order → IsGap (pair_of page) order at
        → entries_of (mapped (slot_at after) (insert order at v)) ≡ map.put pair_cmp (pair_of page) (known page) (along order)
    put_gap [] zero present gap = ap (λ o. entries_of (o ∷ [])) there
    put_gap (i ∷ order) zero present gap =
        ap₂ (λ o os. entries_of (o ∷ os)) there (same_along (i ∷ order) present)
        ∙ put_before (i ∷ order) zero present gap
    put_gap [] (suc at) present gap = absurd gap
    put_gap (i ∷ order) (suc at) present gap =
        let old = is_some_true (slot_at slots i) present.0 in
        let greater = turned (pair_of old.0) (pair_of page) Less (ap (λ x. compared x (pair_of page)) (sym old.1) ∙ gap.0) in
        ap (λ o. entries_of (o ∷ mapped (slot_at after) (insert order at v))) (stays i old.0 old.1)
        ∙ ap (λ es. entry old.0 ∷ es) (put_gap order at present.1 gap.1)
        ∙ ap (λ o. by_order o (entry page ∷ entry old.0 ∷ along order) ((pair_of old.0, known page) ∷ along order)
        (entry old.0 ∷ map.put pair_cmp (pair_of page) (known page) (along order))) (sym greater)
        ∙ ap (map.put pair_cmp (pair_of page) (known page)) (sym (first_along i order old.0 old.1))

  -- a page has left its slot, which is removed
  module _ (after : List (Option (Held A))) (v : ℕ) (page : Held A) (stood : slot_at slots v ≡ Some page) (gone : slot_at after v ≡ None)
      (stays : (i : ℕ) (other : Held A) → slot_at slots i ≡ Some other → i ≢ v
      → (slot_at after i ≡ Some other) × (pair_of other ≢ pair_of page)) where
    -- a slot without a page has no entry
    removed : (order : List ℕ) (at : ℕ) → at < length order → HoldsAt (λ i. i ≡ v) order at
        → entries_of (mapped (slot_at after) (remove order at)) ≡ entries_of (mapped (slot_at after) order)
    removed [] at within is = absurd (omega (arith, within))
    removed (i ∷ order) zero within is =
        sym (ap (λ o. entries_of (o ∷ mapped (slot_at after) order)) (ap (slot_at after) (is i) ∙ gone))
    removed (i ∷ order) (suc at) within is = by (slot_at after i) (removed order at (omega (arith, within)) is)
      where
        by : (x : Option (Held A))
            → entries_of (mapped (slot_at after) (remove order at)) ≡ entries_of (mapped (slot_at after) order)
            → entries_of (x ∷ mapped (slot_at after) (remove order at)) ≡ entries_of (x ∷ mapped (slot_at after) order)
        by None same = same
        by (Some other) same = ap (λ es. entry other ∷ es) same

    abbrev others : List ((List ℕ × ℕ) × Known A) → List ((List ℕ × ℕ) × Known A)
    others es = where_key pair_cmp (λ q. not (same_pair (pair_of page) q)) es

    left_along : (order : List ℕ) → HavePages order → entries_of (mapped (slot_at after) order) ≡ others (along order)
    left_along [] present = refl
    left_along (i ∷ order) present =
        let old = is_some_true (slot_at slots i) present.0 in
        by old.0 old.1 (left_along order present.1) (same_number i v) refl ∙ ap others (sym (first_along i order old.0 old.1))
      where
        kept : (other : Held A) → pair_of other ≢ pair_of page → (b : Bool) → same_pair (pair_of page) (pair_of other) ≡ b
            → entry other ∷ others (along order) ≡ cond (not b) (entry other ∷ others (along order)) (others (along order))
        kept other differs true e = absurd (differs (sym (pair_is (pair_of page) (pair_of other) e)))
        kept other differs false e = refl

        by : (other : Held A) → slot_at slots i ≡ Some other → entries_of (mapped (slot_at after) order) ≡ others (along order)
            → (b : Bool) → same_number i v ≡ b → entries_of (mapped (slot_at after) (i ∷ order)) ≡ others (entry other ∷ along order)
        by other at rest true e =
            let same : other ≡ page = same_Some other page (sym at ∙ ap (slot_at slots) (number_is i v e) ∙ stood) in
            ap (λ o. entries_of (o ∷ mapped (slot_at after) order)) (ap (slot_at after) (number_is i v e) ∙ gone)
            ∙ rest
            ∙ ap (λ b. cond (not b) (entry other ∷ others (along order)) (others (along order)))
            (sym (ap (λ o. same_pair (pair_of page) (pair_of o)) same ∙ pair_itself (pair_of page)))
        by other at rest false e =
            let still = stays i other at (not_same i v e) in
            ap (λ o. entries_of (o ∷ mapped (slot_at after) order)) still.0
            ∙ ap (λ es. entry other ∷ es) rest
            ∙ kept other still.1 (same_pair (pair_of page) (pair_of other)) refl

    pub removed_along : (order : List ℕ) (at : ℕ) → HavePages order → at < length order → HoldsAt (λ i. i ≡ v) order at
        → (m : map.FinMap pair_cmp (Known A)) → along order ≡ map.entries m
        → entries_of (mapped (slot_at after) (remove order at)) ≡ map.entries (map.remove m (pair_of page))
    removed_along order at present within is m same =
        let all = removed order at within is ∙ left_along order present ∙ ap others same in
        all ∙ same_entries pair_cmp pairs_total pairs_exact (others (map.entries m)) (map.entries (map.remove m (pair_of page)))
        (is_sorted-where_key pair_cmp (λ q. not (same_pair (pair_of page) q)) (map.entries m) (map.entries_sorted m))
        (map.entries_sorted (map.remove m (pair_of page))) (λ q.
        find-where_key pair_cmp (λ r. not (same_pair (pair_of page) r)) q
        (λ r tied. ap (λ x. not (same_pair (pair_of page) x)) (sym (pairs_exact q r tied))) (map.entries m)
        ∙ other_way (same_pair (pair_of page) q) (map.find pair_cmp q (map.entries m)) None
        ∙ ap (λ b. cond b None (map.find pair_cmp q (map.entries m))) ((eq_by_cmp_equiv pairs_total).symm (pair_of page) q)
        ∙ ap (cond (same_pair q (pair_of page)) None) (sym (map.get-entries m q))
        ∙ sym (map.get-remove pairs_total m (pair_of page) q)
        ∙ map.get-entries (map.remove m (pair_of page)) q)
