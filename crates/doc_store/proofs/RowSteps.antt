-- Texts in a row and their numbers in another: what stands at a place, and what an edit at that place does to the map that they are.
use Rattle.std.proofs.Common.{◌≡◌, ℕ, zero, suc, ◌+◌, ◌-◌, ◌<◌, ◌≤◌, List, [], ◌∷◌, Bool, true, false, cond, not, T, length, get_or, set, is_eq, is_lt, refl, ap, sym, subst, ◌∙◌, arith}
use Rattle.std.specs.Prelude.{Some, None, Result, Ok, Err, insert, remove, map as mapped}
use Rattle.std.specs.Cmp.{eq_by_cmp_equiv}
use Rattle.std.specs.FinMap as map
use Rattle.std.specs.FinMap.Entries.{by_order, find-where_key, is_sorted-put, is_sorted-where_key, where_key}
use Rattle.std.specs.List.{AllByRecursion, AllWithin, HoldsAt, slice_get, zip}
use Rattle.std.specs.List.Sorted.{IsBinarySearchResult, IsSearchInRange, IsSortedBy, IsStrictlySortedBy}
use Rattle.std.specs.Ordering.{eq_by_cmp, ordering_reverse}
use Rattle.std.specs.declared.cmp.Ordering.{Ordering}
use Rattle.std.specs.declared.cmp.Ordering.TheVariants.{Less, Equal, Greater}
use Rattle.std.proofs.lemmas.Cmp.{nat_list_cmp_total, tied_itself}
use Rattle.std.proofs.lemmas.List.{length-set}
use Rattle.std.proofs.lemmas.List.Edits.{length-insert, length-remove}
use Rattle.std.proofs.lemmas.List.Sorted.{searchable_from_sorted}
use Rattle.std.proofs.lemmas.Map.Lookups.{exact_bytes}
use Rattle.std.proofs.lemmas.Map.Made.{keys_of-zip}
use Rattle.std.proofs.lemmas.Option.{same_Some}
use Rattle.std.proofs.lemmas.Slice.Zip.{seconds-zip}
use Rattle.doc_page_parts.proofs.Maps.{entries_in_order, is_sorted_keys}
use Rattle.doc_store.specs.Numbers.{AreRows, IsPlace, map_of, text_cmp}

turned : (x y : List ℕ) → text_cmp x y ≡ Less → text_cmp y x ≡ Greater
turned x y less = nat_list_cmp_total.antisymm y x ∙ ap ordering_reverse less

turned_back : (x y : List ℕ) → text_cmp x y ≡ Greater → text_cmp y x ≡ Less
turned_back x y greater = nat_list_cmp_total.antisymm y x ∙ ap ordering_reverse greater

-- no text before the place is as high as k, and the one there is k
abbrev IsAt : List ℕ → List (List ℕ) → ℕ → Type 0
IsAt k [] i = ⊥
IsAt k (x ∷ ks) zero = text_cmp k x ≡ Equal
IsAt k (x ∷ ks) (suc i) = (text_cmp k x ≡ Greater) × IsAt k ks i

-- each text before the place is below k, and each from there on above
abbrev IsGap : List ℕ → List (List ℕ) → ℕ → Type 0
IsGap k ks zero = AllByRecursion (λ y. text_cmp k y ≡ Less) ks
IsGap k [] (suc i) = ⊥
IsGap k (x ∷ ks) (suc i) = (text_cmp k x ≡ Greater) × IsGap k ks i

above_at : (P : List ℕ → Type 0) (ks : List (List ℕ)) (i : ℕ) (d : List ℕ) → AllByRecursion P ks → i < length ks → P (get_or ks i d)
above_at P [] i d all within = absurd (omega (arith, within))
above_at P (x ∷ ks) zero d all within = all.0
above_at P (x ∷ ks) (suc i) d all within = above_at P ks i d all.1 (omega (arith, within))

at_from : (k : List ℕ) (ks : List (List ℕ)) (i : ℕ) → IsStrictlySortedBy text_cmp ks → i < length ks → HoldsAt (λ x. x ≡ k) ks i
    → IsAt k ks i
unfolding IsStrictlySortedBy
at_from k [] i sorted within at = absurd (omega (arith, within))
at_from k (x ∷ ks) zero sorted within at = ap (λ y. text_cmp k y) (at x) ∙ tied_itself nat_list_cmp_total k
at_from k (x ∷ ks) (suc i) sorted within at =
    let lower : i < length ks = omega (arith, within) in (
      turned x k (subst (λ y. text_cmp x y ≡ Less) (at x) (above_at (λ y. text_cmp x y ≡ Less) ks i x sorted.0 lower)),
      at_from k ks i sorted.1 lower at,
    )

all_above : (k : List ℕ) (ks : List (List ℕ)) → AllWithin (λ x. text_cmp x k ≡ Greater) ks 0 (length ks)
    → AllByRecursion (λ y. text_cmp k y ≡ Less) ks
all_above k [] above = tt
all_above k (x ∷ ks) above = (
  turned_back x k (above 0 x (omega arith) (omega arith)),
  all_above k ks (λ j d low high. above (suc j) d (omega arith) (omega (arith, high))),
)

gap_from : (k : List ℕ) (ks : List (List ℕ)) (i : ℕ) → i ≤ length ks
    → AllWithin (λ x. text_cmp x k ≡ Less) ks 0 i → AllWithin (λ x. text_cmp x k ≡ Greater) ks i (length ks) → IsGap k ks i
gap_from k ks zero within below above = all_above k ks above
gap_from k [] (suc i) within below above = absurd (omega (arith, within))
gap_from k (x ∷ ks) (suc i) within below above = (
  turned x k (below 0 x (omega arith) (omega arith)),
  gap_from k ks i (omega (arith, within)) (λ j d low high. below (suc j) d (omega arith) (omega (arith, high)))
      (λ j d low high. above (suc j) d (omega (arith, low)) (omega (arith, high))),
)

-- ---- the search for a place

rises : (ks : List (List ℕ)) → IsStrictlySortedBy text_cmp ks → IsSortedBy (λ a b. is_lt (text_cmp a b)) ks
unfolding IsStrictlySortedBy
rises [] sorted k d low high = absurd (omega (arith, high))
rises (x ∷ []) sorted k d low high = absurd (omega (arith, high))
rises (x ∷ y ∷ ks) sorted zero d low high = ap is_lt (turned x y sorted.0.0)
rises (x ∷ y ∷ ks) sorted (suc k) d low high =
    let next : suc k + 1 ≡ suc (k + 1) = omega arith in
    subst (λ j. is_lt (text_cmp (get_or (x ∷ y ∷ ks) j d) (get_or (x ∷ y ∷ ks) (suc k) d)) ≡ false) (sym next)
    (rises (y ∷ ks) sorted.1 k d (omega arith) (omega (arith, high)))

-- what a binary search finds in a row
pub place_found : (k : List ℕ) (ks : List (List ℕ)) → IsStrictlySortedBy text_cmp ks → (result : Result ℕ ℕ)
    → IsSearchInRange result (length ks) → IsBinarySearchResult (λ x. text_cmp x k) ks result → IsPlace k ks result
place_found k ks sorted (Ok at) within found = (within, λ d. exact_bytes (get_or ks at d) k (found d))
place_found k ks sorted (Err at) within found =
    (within, found (searchable_from_sorted nat_list_cmp_total (λ x. x) ks k (rises ks sorted)))

-- all texts are below k where the last one is
all_below : (k : List ℕ) (ks : List (List ℕ)) → IsStrictlySortedBy text_cmp ks → (last : List ℕ) → Some last ≡ slice_get ks (length ks - 1)
    → text_cmp last k ≡ Less → AllWithin (λ x. text_cmp x k ≡ Less) ks 0 (length ks)
unfolding IsStrictlySortedBy
all_below k [] sorted last is below i d low high = absurd (omega (arith, high))
all_below k (x ∷ []) sorted last is below zero d low high = ap (λ y. text_cmp y k) (sym (same_Some last x is)) ∙ below
all_below k (x ∷ []) sorted last is below (suc i) d low high = absurd (omega (arith, high))
all_below k (x ∷ y ∷ ks) sorted last is below zero d low high =
    let next : suc (suc (length ks)) - 1 ≡ suc (suc (length ks) - 1) = omega arith in
    nat_list_cmp_total.trans x y k sorted.0.0
    (all_below k (y ∷ ks) sorted.1 last (is ∙ ap (slice_get (x ∷ y ∷ ks)) next) below 0 d (omega arith) (omega arith))
all_below k (x ∷ y ∷ ks) sorted last is below (suc i) d low high =
    let next : suc (suc (length ks)) - 1 ≡ suc (suc (length ks) - 1) = omega arith in
    all_below k (y ∷ ks) sorted.1 last (is ∙ ap (slice_get (x ∷ y ∷ ks)) next) below i d (omega arith) (omega (arith, high))

is_lt_true : (o : Ordering) → is_lt o ≡ true → o ≡ Less
is_lt_true Less e = refl
is_lt_true Equal e = cc
is_lt_true Greater e = cc

-- a text behind the last one
pub place_behind : (k : List ℕ) (ks : List (List ℕ)) → IsStrictlySortedBy text_cmp ks → (last : List ℕ)
    → Some last ≡ slice_get ks (length ks - 1) → is_lt (text_cmp last k) ≡ true → IsPlace k ks (Err (length ks))
place_behind k ks sorted last is below = (
  omega arith,
  (all_below k ks sorted last is (is_lt_true (text_cmp last k) below), λ i d low high. absurd (omega (arith, low, high))),
)

-- ---- two rows as entries

find_at : (k : List ℕ) (ks : List (List ℕ)) (ns : List ℕ) (i d : ℕ) → length ns ≡ length ks → IsAt k ks i
    → map.find text_cmp k (zip ks ns) ≡ Some (get_or ns i d)
find_at k [] ns i d long at = absurd at
find_at k (x ∷ ks) [] i d long at = absurd (omega (arith, long))
find_at k (x ∷ ks) (n ∷ ns) zero d long at = ap (λ o. cond (is_eq o) (Some n) (map.find text_cmp k (zip ks ns))) at
find_at k (x ∷ ks) (n ∷ ns) (suc i) d long at =
    ap (λ o. cond (is_eq o) (Some n) (map.find text_cmp k (zip ks ns))) at.0 ∙ find_at k ks ns i d (omega (arith, long)) at.1

find_above : (k : List ℕ) (ks : List (List ℕ)) (ns : List ℕ) → AllByRecursion (λ y. text_cmp k y ≡ Less) ks
    → map.find text_cmp k (zip ks ns) ≡ None
find_above k [] ns above = refl
find_above k (x ∷ ks) [] above = refl
find_above k (x ∷ ks) (n ∷ ns) above =
    ap (λ o. cond (is_eq o) (Some n) (map.find text_cmp k (zip ks ns))) above.0 ∙ find_above k ks ns above.1

find_gap : (k : List ℕ) (ks : List (List ℕ)) (ns : List ℕ) (i : ℕ) → IsGap k ks i → map.find text_cmp k (zip ks ns) ≡ None
find_gap k ks ns zero gap = find_above k ks ns gap
find_gap k [] ns (suc i) gap = absurd gap
find_gap k (x ∷ ks) [] (suc i) gap = refl
find_gap k (x ∷ ks) (n ∷ ns) (suc i) gap =
    ap (λ o. cond (is_eq o) (Some n) (map.find text_cmp k (zip ks ns))) gap.0 ∙ find_gap k ks ns i gap.1

-- a number set, or inserted with its text, at its place is put there as a map puts it
set_at : (k : List ℕ) (v : ℕ) (ks : List (List ℕ)) (ns : List ℕ) (i : ℕ) → length ns ≡ length ks → IsAt k ks i
    → zip ks (set ns i v) ≡ map.put text_cmp k v (zip ks ns)
set_at k v [] ns i long at = absurd at
set_at k v (x ∷ ks) [] i long at = absurd (omega (arith, long))
set_at k v (x ∷ ks) (n ∷ ns) zero long at =
    ap (λ o. by_order o ((k, v) ∷ (x, n) ∷ zip ks ns) ((x, v) ∷ zip ks ns) ((x, n) ∷ map.put text_cmp k v (zip ks ns))) (sym at)
set_at k v (x ∷ ks) (n ∷ ns) (suc i) long at =
    ap (λ es. (x, n) ∷ es) (set_at k v ks ns i (omega (arith, long)) at.1)
    ∙ ap (λ o. by_order o ((k, v) ∷ (x, n) ∷ zip ks ns) ((x, v) ∷ zip ks ns) ((x, n) ∷ map.put text_cmp k v (zip ks ns))) (sym at.0)

inserted_at : (k : List ℕ) (v : ℕ) (ks : List (List ℕ)) (ns : List ℕ) (i : ℕ) → length ns ≡ length ks → IsGap k ks i
    → zip (insert ks i k) (insert ns i v) ≡ map.put text_cmp k v (zip ks ns)
inserted_at k v [] [] zero long gap = refl
inserted_at k v [] (n ∷ ns) zero long gap = absurd (omega (arith, long))
inserted_at k v (x ∷ ks) [] i long gap = absurd (omega (arith, long))
inserted_at k v (x ∷ ks) (n ∷ ns) zero long gap =
    ap (λ o. by_order o ((k, v) ∷ (x, n) ∷ zip ks ns) ((x, v) ∷ zip ks ns) ((x, n) ∷ map.put text_cmp k v (zip ks ns))) (sym gap.0)
inserted_at k v [] ns (suc i) long gap = absurd gap
inserted_at k v (x ∷ ks) (n ∷ ns) (suc i) long gap =
    ap (λ es. (x, n) ∷ es) (inserted_at k v ks ns i (omega (arith, long)) gap.1)
    ∙ ap (λ o. by_order o ((k, v) ∷ (x, n) ∷ zip ks ns) ((x, v) ∷ zip ks ns) ((x, n) ∷ map.put text_cmp k v (zip ks ns))) (sym gap.0)

-- the entries but that of a text
abbrev without : List ℕ → List (List ℕ × ℕ) → List (List ℕ × ℕ)
without k es = where_key text_cmp (λ x. not (eq_by_cmp text_cmp k x)) es

all_others : (k : List ℕ) (ks : List (List ℕ)) (ns : List ℕ) → AllByRecursion (λ y. text_cmp k y ≡ Less) ks
    → without k (zip ks ns) ≡ zip ks ns
all_others k [] ns above = refl
all_others k (x ∷ ks) [] above = refl
all_others k (x ∷ ks) (n ∷ ns) above =
    ap (λ o. cond (not (is_eq o)) ((x, n) ∷ without k (zip ks ns)) (without k (zip ks ns))) above.0
    ∙ ap (λ es. (x, n) ∷ es) (all_others k ks ns above.1)

removed_at : (k : List ℕ) (ks : List (List ℕ)) (ns : List ℕ) (i : ℕ) → length ns ≡ length ks → IsStrictlySortedBy text_cmp ks → IsAt k ks i
    → zip (remove ks i) (remove ns i) ≡ without k (zip ks ns)
unfolding IsStrictlySortedBy
removed_at k [] ns i long sorted at = absurd at
removed_at k (x ∷ ks) [] i long sorted at = absurd (omega (arith, long))
removed_at k (x ∷ ks) (n ∷ ns) zero long sorted at =
    sym (ap (λ o. cond (not (is_eq o)) ((x, n) ∷ without k (zip ks ns)) (without k (zip ks ns))) at
    ∙ all_others k ks ns (subst (λ y. AllByRecursion (λ z. text_cmp y z ≡ Less) ks) (sym (exact_bytes k x at)) sorted.0))
removed_at k (x ∷ ks) (n ∷ ns) (suc i) long sorted at =
    ap (λ es. (x, n) ∷ es) (removed_at k ks ns i (omega (arith, long)) sorted.1 at.1)
    ∙ ap (λ o. cond (not (is_eq o)) ((x, n) ∷ without k (zip ks ns)) (without k (zip ks ns))) (sym at.0)

other_way : {A : Type 0} (b : Bool) (x y : A) → cond (not b) x y ≡ cond b y x
other_way true x y = refl
other_way false x y = refl

-- ---- two rows as a map

module _ (ks : List (List ℕ)) (ns : List ℕ) (rows : AreRows ks ns) where
  entries_are : map.entries (map_of ks ns) ≡ zip ks ns
  entries_are = entries_in_order nat_list_cmp_total exact_bytes (zip ks ns)
      (subst (IsStrictlySortedBy text_cmp) (sym (keys_of-zip ks ns rows.as_many)) rows.rising)

  in_order : T (map.is_sorted text_cmp (zip ks ns))
  in_order = subst (λ es. T (map.is_sorted text_cmp es)) entries_are (map.entries_sorted (map_of ks ns))

  pub values_are : map.values (map_of ks ns) ≡ ns
  values_are = ap (mapped (λ e. e.1)) entries_are ∙ seconds-zip ks ns rows.as_many

  got : (k : List ℕ) → map.get (map_of ks ns) k ≡ map.find text_cmp k (zip ks ns)
  got k = map.get-from_entries nat_list_cmp_total (zip ks ns) k

module _ (ks : List (List ℕ)) (ns : List ℕ) (rows : AreRows ks ns) (k : List ℕ) where
  -- rows whose entries are sorted
  rows_of : (ls : List (List ℕ)) (ms : List ℕ) → length ms ≡ length ls → T (map.is_sorted text_cmp (zip ls ms)) → AreRows ls ms
  rows_of ls ms long sorted = record {
    as_many = long;
    rising = subst (IsStrictlySortedBy text_cmp) (keys_of-zip ls ms long) (is_sorted_keys text_cmp (zip ls ms) sorted);
  }

  put_in : (v : ℕ) (ls : List (List ℕ)) (ms : List ℕ) → length ms ≡ length ls → zip ls ms ≡ map.put text_cmp k v (zip ks ns)
      → AreRows ls ms × (map_of ls ms ≡ map.insert (map_of ks ns) k v)
  put_in v ls ms long put =
      let new : AreRows ls ms = rows_of ls ms long (subst (λ es. T (map.is_sorted text_cmp es)) (sym put)
      (is_sorted-put text_cmp nat_list_cmp_total k v (zip ks ns) (in_order ks ns rows))) in (
        new,
        map.same_entries_map _ _ (entries_are ls ms new ∙ put
            ∙ sym (map.entries-insert nat_list_cmp_total (map_of ks ns) k v ∙ ap (map.put text_cmp k v) (entries_are ks ns rows))),
      )

  without_in : (ls : List (List ℕ)) (ms : List ℕ) → length ms ≡ length ls → zip ls ms ≡ without k (zip ks ns)
      → AreRows ls ms × (map_of ls ms ≡ map.remove (map_of ks ns) k)
  without_in ls ms long left =
      let new : AreRows ls ms = rows_of ls ms long (subst (λ es. T (map.is_sorted text_cmp es)) (sym left)
      (is_sorted-where_key text_cmp (λ x. not (eq_by_cmp text_cmp k x)) (zip ks ns) (in_order ks ns rows))) in (
        new,
        map.same_map nat_list_cmp_total exact_bytes _ _ (λ q.
            got ls ms new q ∙ ap (map.find text_cmp q) left
            ∙ find-where_key text_cmp (λ x. not (eq_by_cmp text_cmp k x)) q
            (λ x tied. ap (λ y. not (eq_by_cmp text_cmp k y)) (sym (exact_bytes q x tied))) (zip ks ns)
            ∙ other_way (eq_by_cmp text_cmp k q) (map.find text_cmp q (zip ks ns)) None
            ∙ ap (λ b. cond b None (map.find text_cmp q (zip ks ns))) ((eq_by_cmp_equiv nat_list_cmp_total).symm k q)
            ∙ ap (cond (eq_by_cmp text_cmp q k) None) (sym (got ks ns rows q))
            ∙ sym (map.get-remove nat_list_cmp_total (map_of ks ns) k q)),
      )

  -- at a text whose place is found
  module _ (i : ℕ) (place : IsPlace k ks (Ok i)) where
    stands : IsAt k ks i
    stands = at_from k ks i rows.rising place.0 place.1

    pub got_at : (d : ℕ) → map.get (map_of ks ns) k ≡ Some (get_or ns i d)
    got_at d = got ks ns rows k ∙ find_at k ks ns i d rows.as_many stands

    pub set_in : (v : ℕ) → AreRows ks (set ns i v) × (map_of ks (set ns i v) ≡ map.insert (map_of ks ns) k v)
    set_in v = put_in v ks (set ns i v) (length-set ns i v ∙ rows.as_many) (set_at k v ks ns i rows.as_many stands)

    pub removed_in : AreRows (remove ks i) (remove ns i) × (map_of (remove ks i) (remove ns i) ≡ map.remove (map_of ks ns) k)
    removed_in =
        let within : i < length ns = omega (arith, place.0, rows.as_many) in
        let texts = length-remove ks i place.0 in
        let numbers = length-remove ns i within in
        without_in (remove ks i) (remove ns i) (omega (arith, texts, numbers, rows.as_many))
        (removed_at k ks ns i rows.as_many rows.rising stands)

  -- at a text that has none
  module _ (i : ℕ) (place : IsPlace k ks (Err i)) where
    lacks : IsGap k ks i
    lacks = gap_from k ks i place.0 place.1.0 place.1.1

    pub got_none : map.get (map_of ks ns) k ≡ None
    got_none = got ks ns rows k ∙ find_gap k ks ns i lacks

    pub inserted_in : (v : ℕ)
        → AreRows (insert ks i k) (insert ns i v) × (map_of (insert ks i k) (insert ns i v) ≡ map.insert (map_of ks ns) k v)
    inserted_in v =
        let within : i ≤ length ns = omega (arith, place.0, rows.as_many) in
        let texts = length-insert ks i k place.0 in
        let numbers = length-insert ns i v within in
        put_in v (insert ks i k) (insert ns i v) (omega (arith, texts, numbers, rows.as_many))
        (inserted_at k v ks ns i rows.as_many lacks)

-- two rows without texts
pub none_yet : AreRows [] []
unfolding IsStrictlySortedBy
none_yet = record { as_many = refl; rising = tt }
