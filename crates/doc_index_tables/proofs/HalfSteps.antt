-- A block in two halves, and new blocks.
use Rattle.std.proofs.Common.{◌≡◌, ℕ, zero, suc, ◌+◌, ◌-◌, ◌/◌, ◌<◌, ◌≤◌, List, [], ◌∷◌, ◌++◌, Bool, true, false, cond, length, take, drop, set, insert, refl, ap, ap₂, sym, subst, ◌∙◌, arith, length-append, length-drop, take-append-drop}
use Rattle.std.specs.FinMap as map
use Rattle.std.specs.FinMap.Entries.{is_sorted-put}
use Rattle.std.specs.List.{AllByRecursion}
use Rattle.std.specs.Ordering.{nat_cmp}
use Rattle.std.specs.declared.cmp.Ordering.TheVariants.{Greater}
use Rattle.std.proofs.lemmas.Cmp.{nat_cmp_total}
use Rattle.std.proofs.lemmas.List.{append-nil, length-take-le}
use Rattle.doc_index_tables.specs.Blocks.{AreBlocks, IsBlock, begins_by, joined}
use Rattle.doc_index_tables.specs.Maps.{NumberMap}
use Rattle.doc_index_tables.proofs.BlockSteps.{Above, IsRising, all_map, first_above, first_below, in_order, put_before, put_behind, rising, rising_parts}
use Rattle.doc_index_tables.proofs.PlaceSteps.{IsInOrder, entries_are}

half_order : (es : List (ℕ × ℕ)) (n : ℕ) → IsInOrder es → IsInOrder (take n es) × IsInOrder (drop n es)
half_order es n order =
    let parts = rising_parts (take n es) (drop n es) (subst IsRising (sym (take-append-drop n es)) (rising es order)) in
    (in_order (take n es) parts.0, in_order (drop n es) parts.1)

module _ (es : List (ℕ × ℕ)) (order : IsInOrder es) (m : NumberMap ℕ) (is : map.from_sorted es ≡ m) (n : ℕ) (same : n ≡ length es)
    (fs : List (ℕ × ℕ)) where
  len_is : n ≡ map.len m
  len_is = same ∙ sym (map.len-entries m ∙ ap length (entries_are es order m is))

  pub lower_half : fs ≡ take (n / 2) es
      → IsInOrder fs × (map.entries (map.from_sorted {R = nat_cmp} fs) ≡ take (map.len m / 2) (map.entries m))
  lower_half half =
      let up : IsInOrder fs = subst IsInOrder (sym half) (half_order es (n / 2) order).0 in (
        up,
        map.entries-from_sorted nat_cmp fs up ∙ half
            ∙ ap₂ (λ k xs. take (k / 2) xs) len_is (sym (entries_are es order m is)),
      )

  pub upper_half : fs ≡ drop (n / 2) es
      → IsInOrder fs × (map.entries (map.from_sorted {R = nat_cmp} fs) ≡ drop (map.len m / 2) (map.entries m))
  upper_half half =
      let up : IsInOrder fs = subst IsInOrder (sym half) (half_order es (n / 2) order).1 in (
        up,
        map.entries-from_sorted nat_cmp fs up ∙ half
            ∙ ap₂ (λ k xs. drop (k / 2) xs) len_is (sym (entries_are es order m is)),
      )

-- a block with one number more
pub grown : (k v : ℕ) (b new : NumberMap ℕ) → new ≡ map.insert b k v → 0 < map.len b → map.len b < 512 → IsBlock new
grown k v b new is some small =
    subst IsBlock (sym is)
    (subst (λ n. (0 < n) × (n ≤ 512)) (sym (map.len-insert nat_cmp_total b k v)) (by (map.contains_key b k)))
  where
    by : (c : Bool) → (0 < cond c (map.len b) (map.len b + 1)) × (cond c (map.len b) (map.len b + 1) ≤ 512)
    by true = (some, omega (arith, small))
    by false = (omega arith, omega (arith, small))

pub entries_grown : (k v : ℕ) (b new : NumberMap ℕ) → new ≡ map.insert b k v → map.entries new ≡ map.put nat_cmp k v (map.entries b)
entries_grown k v b new is = ap map.entries is ∙ map.entries-insert nat_cmp_total b k v

module _ (k v : ℕ) (m lower upper : NumberMap ℕ) (some : 2 ≤ map.len m) (small : map.len m ≤ 512)
    (low : map.entries lower ≡ take (map.len m / 2) (map.entries m))
    (high : map.entries upper ≡ drop (map.len m / 2) (map.entries m)) where
  low_len : map.len lower ≡ map.len m / 2
  low_len =
      map.len-entries lower ∙ ap length low
      ∙ length-take-le (map.len m / 2) (map.entries m)
      (let all : map.len m ≡ length (map.entries m) = map.len-entries m in omega (arith, all))

  high_len : map.len upper ≡ map.len m - map.len m / 2
  high_len =
      map.len-entries upper ∙ ap length high ∙ length-drop (map.len m / 2) (map.entries m)
      ∙ ap (λ n. n - map.len m / 2) (sym (map.len-entries m))

  low_block : (0 < map.len lower) × (map.len lower < 512)
  low_block = let n = low_len in (omega (arith, n, some), omega (arith, n, small))

  high_block : (0 < map.len upper) × (map.len upper < 512)
  high_block = let n = high_len in (omega (arith, n, some), omega (arith, n, some, small))

  whole : map.entries lower ++ map.entries upper ≡ map.entries m
  whole = ap₂ (λ xs ys. xs ++ ys) low high ∙ take-append-drop (map.len m / 2) (map.entries m)

  up : IsRising (map.entries lower ++ map.entries upper)
  up = subst IsRising (sym whole) (rising (map.entries m) (map.entries_sorted m))

  pub upper_set : begins_by k (map.entries upper) ≡ true → (new : NumberMap ℕ) → new ≡ map.insert upper k v
      → (IsBlock lower × IsBlock new) × (map.entries lower ++ map.entries new ≡ map.put nat_cmp k v (map.entries m))
  upper_set begins new is = (
    ((low_block.0, omega (arith, low_block.1)), grown k v upper new is high_block.0 high_block.1),
    ap (λ es. map.entries lower ++ es) (entries_grown k v upper new is)
        ∙ sym (put_before k v (map.entries lower) (map.entries upper)
        (all_map (λ x. Above x.0 (map.entries upper)) (λ e. nat_cmp k e.0 ≡ Greater)
        (λ x above. first_below k x.0 (map.entries upper) begins above) (map.entries lower)
        (rising_parts (map.entries lower) (map.entries upper) up).2))
        ∙ ap (map.put nat_cmp k v) whole,
  )

  pub lower_set : begins_by k (map.entries upper) ≡ false → (new : NumberMap ℕ) → new ≡ map.insert lower k v
      → (IsBlock new × IsBlock upper) × (map.entries new ++ map.entries upper ≡ map.put nat_cmp k v (map.entries m))
  lower_set begins new is =
      let all : 0 < length (map.entries upper) = subst (λ n. 0 < n) (map.len-entries upper) high_block.0 in
      let above : Above k (map.entries upper ++ []) =
      first_above k (map.entries upper) [] all begins
      (subst IsRising (sym (append-nil (map.entries upper))) (rising (map.entries upper) (map.entries_sorted upper))) in (
        (grown k v lower new is low_block.0 low_block.1, (high_block.0, omega (arith, high_block.1))),
        ap (λ es. es ++ map.entries upper) (entries_grown k v lower new is)
            ∙ sym (put_behind k v (map.entries lower) (map.entries upper)
            (subst (Above k) (append-nil (map.entries upper)) above))
            ∙ ap (map.put nat_cmp k v) whole,
      )

-- two blocks in place of one
pub of_two : (k v : ℕ) (m lower upper : NumberMap ℕ) (none one two : List (NumberMap ℕ)) (i j : ℕ) → none ≡ []
    → one ≡ none ++ lower ∷ [] → two ≡ one ++ upper ∷ [] → IsBlock lower × IsBlock upper
    → map.entries lower ++ map.entries upper ≡ map.put nat_cmp k v (map.entries m) → i ≡ map.len lower → j ≡ map.len upper
    → (AreBlocks two × (i + j ≡ length (joined two))) × (map.from_sorted (joined two) ≡ map.insert m k v)
of_two k v m lower upper none one two i j nothing first second each numbers low high =
    let is : two ≡ lower ∷ upper ∷ [] =
    second ∙ ap (λ bs. bs ++ upper ∷ []) (first ∙ ap (λ bs. bs ++ lower ∷ []) nothing) in
    let all : joined two ≡ map.put nat_cmp k v (map.entries m) =
    ap joined is ∙ ap (λ es. map.entries lower ++ es) (append-nil (map.entries upper)) ∙ numbers in
    let order : IsInOrder (joined two) =
    subst IsInOrder (sym all) (is_sorted-put nat_cmp nat_cmp_total k v (map.entries m) (map.entries_sorted m)) in (
      (
        (subst (AllByRecursion IsBlock) (sym is) (each.0, (each.1, tt)), order),
        ap₂ (λ x y. x + y) (low ∙ map.len-entries lower) (high ∙ map.len-entries upper)
            ∙ sym (length-append (map.entries lower) (map.entries upper)) ∙ ap length (numbers ∙ sym all),
      ),
      map.same_entries_map _ _ (map.entries-from_sorted nat_cmp (joined two) order ∙ all ∙ sym (map.entries-insert nat_cmp_total m k v)),
    )

no_entries : (es : List (ℕ × ℕ)) → length es ≡ 0 → es ≡ []
no_entries [] none = refl
no_entries (e ∷ es) none = absurd (omega (arith, none))

pub entries_none : (b : NumberMap ℕ) → map.len b ≡ 0 → map.entries b ≡ []
entries_none b none = no_entries (map.entries b) (sym (map.len-entries b) ∙ none)

-- the first block of all
pub first_block : (k v : ℕ) (old new : List (NumberMap ℕ)) (empty b : NumberMap ℕ) → old ≡ [] → new ≡ old ++ b ∷ [] → empty ≡ map.empty
    → b ≡ map.insert empty k v → AreBlocks new × (joined new ≡ (k, v) ∷ [])
first_block k v old new empty b nothing added none is =
    let one : map.entries b ≡ (k, v) ∷ [] =
    entries_grown k v empty b is
    ∙ ap (map.put nat_cmp k v) (entries_none empty (ap map.len none ∙ map.len-empty nat_cmp ℕ)) in
    let new_is : new ≡ b ∷ [] = added ∙ ap (λ bs. bs ++ b ∷ []) nothing in
    let all : joined new ≡ (k, v) ∷ [] = ap joined new_is ∙ append-nil (map.entries b) ∙ one in
    let size : map.len b ≡ 1 = map.len-entries b ∙ ap length one in (
      (subst (AllByRecursion IsBlock) (sym new_is) ((omega (arith, size), omega (arith, size)), tt), subst IsInOrder (sym all) tt),
      all,
    )

pub set_after : {X : Type 0} (xs : List X) (i : ℕ) (x y : X) → i < length xs
    → set (insert xs (suc i) y) i x ≡ take i xs ++ ((x ∷ y ∷ []) ++ drop (suc i) xs)
set_after [] i x y within = absurd (omega (arith, within))
set_after (z ∷ zs) zero x y within = refl
set_after (z ∷ zs) (suc i) x y within = ap (λ xs. z ∷ xs) (set_after zs i x y (omega (arith, within)))

-- the halves stand where the full block stood
pub joined_two : (k v : ℕ) (b lower upper : NumberMap ℕ)
    → map.entries lower ++ map.entries upper ≡ map.put nat_cmp k v (map.entries b)
    → joined (lower ∷ upper ∷ []) ≡ map.put nat_cmp k v (map.entries b)
joined_two k v b lower upper numbers = ap (λ es. map.entries lower ++ es) (append-nil (map.entries upper)) ∙ numbers
