-- Rows in blocks: where a number stands, and what an edit of one block does to them all.
use Rattle.std.proofs.Common.{◌≡◌, ℕ, zero, suc, ◌-◌, ◌<◌, ◌≤◌, List, [], ◌∷◌, ◌++◌, Bool, true, false, cond, not, ◌&&◌, T, length, take, drop, get_or, is_eq, is_lt, refl, ap, sym, subst, ◌∙◌, arith, inl, inr, nat_le}
use Rattle.std.specs.Prelude.{◌⊎◌, ⊤, Some, None, HoldsAt}
use Rattle.std.specs.FinMap as map
use Rattle.std.specs.FinMap.Entries.{below_all, by_order, is_sorted-put, is_sorted-where_key}
use Rattle.std.specs.List.{AllByRecursion}
use Rattle.std.specs.Cmp.{nat_cmp_is}
use Rattle.std.specs.Ordering.{eq_by_cmp, nat_cmp}
use Rattle.std.specs.declared.cmp.Ordering.{Ordering}
use Rattle.std.specs.declared.cmp.Ordering.TheVariants.{Less, Equal, Greater}
use Rattle.std.proofs.Math.Seq.{split_at, drop-length}
use Rattle.std.proofs.lemmas.Bool.{cases_lt, leb-true, leb-false}
use Rattle.std.proofs.lemmas.Cmp.{ranked, nat_cmp_total}
use Rattle.std.proofs.lemmas.Grind.{flat_map-append}
use Rattle.doc_index_tables.specs.Blocks.{AreBlocks, IsBlock, IsPlace, begins_by, joined, without}
use Rattle.doc_index_tables.specs.Maps.{NumberMap}
use Rattle.doc_index_tables.proofs.PlaceSteps.{IsInOrder}

-- each number is below k, and each is above
abbrev pub Below : ℕ → List (ℕ × ℕ) → Type 0
Below k es = AllByRecursion (λ e. nat_cmp k e.0 ≡ Greater) es

abbrev pub Above : ℕ → List (ℕ × ℕ) → Type 0
Above k es = AllByRecursion (λ e. nat_cmp k e.0 ≡ Less) es

module _ {X : Type 0} (P : X → Type 0) where
  pub all_parts : (xs ys : List X) → AllByRecursion P (xs ++ ys) → AllByRecursion P xs × AllByRecursion P ys
  all_parts [] ys all = (tt, all)
  all_parts (x ∷ xs) ys all = let parts = all_parts xs ys all.1 in ((all.0, parts.0), parts.1)

  pub all_join : (xs ys : List X) → AllByRecursion P xs → AllByRecursion P ys → AllByRecursion P (xs ++ ys)
  all_join [] ys all more = more
  all_join (x ∷ xs) ys all more = (all.0, all_join xs ys all.1 more)

  pub all_at : (xs : List X) (i : ℕ) (d : X) → AllByRecursion P xs → i < length xs → P (get_or xs i d)
  all_at [] i d all within = absurd (omega (arith, within))
  all_at (x ∷ xs) zero d all within = all.0
  all_at (x ∷ xs) (suc i) d all within = all_at xs i d all.1 (omega (arith, within))

pub all_map : {X : Type 0} (P Q : X → Type 0) → ((x : X) → P x → Q x) → (xs : List X) → AllByRecursion P xs → AllByRecursion Q xs
all_map P Q f [] all = tt
all_map P Q f (x ∷ xs) all = (f x all.0, all_map P Q f xs all.1)

-- what stands behind all lower numbers, and what before all higher ones
find_before : (k : ℕ) (xs ys : List (ℕ × ℕ)) → Below k xs → map.find nat_cmp k (xs ++ ys) ≡ map.find nat_cmp k ys
find_before k [] ys below = refl
find_before k (x ∷ xs) ys below =
    ap (λ o. cond (is_eq o) (Some x.1) (map.find nat_cmp k (xs ++ ys))) below.0 ∙ find_before k xs ys below.1

find_above : (k : ℕ) (ys : List (ℕ × ℕ)) → Above k ys → map.find nat_cmp k ys ≡ None
find_above k [] above = refl
find_above k (y ∷ ys) above = ap (λ o. cond (is_eq o) (Some y.1) (map.find nat_cmp k ys)) above.0 ∙ find_above k ys above.1

find_behind : (k : ℕ) (xs ys : List (ℕ × ℕ)) → Above k ys → map.find nat_cmp k (xs ++ ys) ≡ map.find nat_cmp k xs
find_behind k [] ys above = find_above k ys above
find_behind k (x ∷ xs) ys above = ap (cond (eq_by_cmp nat_cmp k x.0) (Some x.1)) (find_behind k xs ys above)

pub put_before : (k v : ℕ) (xs ys : List (ℕ × ℕ)) → Below k xs → map.put nat_cmp k v (xs ++ ys) ≡ xs ++ map.put nat_cmp k v ys
put_before k v [] ys below = refl
put_before k v (x ∷ xs) ys below =
    ap (λ o. by_order o ((k, v) ∷ x ∷ xs ++ ys) ((x.0, v) ∷ xs ++ ys) (x ∷ map.put nat_cmp k v (xs ++ ys))) below.0
    ∙ ap (λ es. x ∷ es) (put_before k v xs ys below.1)

put_above : (k v : ℕ) (ys : List (ℕ × ℕ)) → Above k ys → map.put nat_cmp k v ys ≡ (k, v) ∷ ys
put_above k v [] above = refl
put_above k v (y ∷ ys) above =
    ap (λ o. by_order o ((k, v) ∷ y ∷ ys) ((y.0, v) ∷ ys) (y ∷ map.put nat_cmp k v ys)) above.0

pub put_behind : (k v : ℕ) (xs ys : List (ℕ × ℕ)) → Above k ys → map.put nat_cmp k v (xs ++ ys) ≡ map.put nat_cmp k v xs ++ ys
put_behind k v [] ys above = put_above k v ys above
put_behind k v (x ∷ xs) ys above = by (nat_cmp k x.0) (put_behind k v xs ys above)
  where
    by : (o : Ordering) → map.put nat_cmp k v (xs ++ ys) ≡ map.put nat_cmp k v xs ++ ys
        → by_order o ((k, v) ∷ x ∷ xs ++ ys) ((x.0, v) ∷ xs ++ ys) (x ∷ map.put nat_cmp k v (xs ++ ys))
        ≡ by_order o ((k, v) ∷ x ∷ xs) ((x.0, v) ∷ xs) (x ∷ map.put nat_cmp k v xs) ++ ys
    by Less later = refl
    by Equal later = refl
    by Greater later = ap (λ es. x ∷ es) later

without_before : (k : ℕ) (xs ys : List (ℕ × ℕ)) → Below k xs → without k (xs ++ ys) ≡ xs ++ without k ys
without_before k [] ys below = refl
without_before k (x ∷ xs) ys below =
    ap (λ o. cond (not (is_eq o)) (x ∷ without k (xs ++ ys)) (without k (xs ++ ys))) below.0
    ∙ ap (λ es. x ∷ es) (without_before k xs ys below.1)

without_above : (k : ℕ) (ys : List (ℕ × ℕ)) → Above k ys → without k ys ≡ ys
without_above k [] above = refl
without_above k (y ∷ ys) above =
    ap (λ o. cond (not (is_eq o)) (y ∷ without k ys) (without k ys)) above.0 ∙ ap (λ es. y ∷ es) (without_above k ys above.1)

without_behind : (k : ℕ) (xs ys : List (ℕ × ℕ)) → Above k ys → without k (xs ++ ys) ≡ without k xs ++ ys
without_behind k [] ys above = without_above k ys above
without_behind k (x ∷ xs) ys above = by (not (eq_by_cmp nat_cmp k x.0)) (without_behind k xs ys above)
  where
    by : (b : Bool) → without k (xs ++ ys) ≡ without k xs ++ ys
        → cond b (x ∷ without k (xs ++ ys)) (without k (xs ++ ys)) ≡ cond b (x ∷ without k xs) (without k xs) ++ ys
    by true later = ap (λ es. x ∷ es) later
    by false later = later

-- each number is below all behind it
abbrev pub IsRising : List (ℕ × ℕ) → Type 0
IsRising [] = ⊤
IsRising (e ∷ es) = Above e.0 es × IsRising es

both : (a b : Bool) → T (a && b) → T a × T b
both true b h = (tt, h)
both false b h = absurd h

joins : (a b : Bool) → T a → T b → T (a && b)
joins true b h more = more
joins false b h more = absurd h

is_less : (o : Ordering) → T (is_lt o) → o ≡ Less
is_less Less h = refl
is_less Equal h = absurd h
is_less Greater h = absurd h

above_all : (k : ℕ) (es : List (ℕ × ℕ)) → T (below_all nat_cmp k es) → Above k es
above_all k [] h = tt
above_all k (e ∷ es) h =
    let parts = both (is_lt (nat_cmp k e.0)) (below_all nat_cmp k es) h in (is_less (nat_cmp k e.0) parts.0, above_all k es parts.1)

pub rising : (es : List (ℕ × ℕ)) → IsInOrder es → IsRising es
rising [] order = tt
rising (e ∷ es) order =
    let parts = both (below_all nat_cmp e.0 es) (map.is_sorted nat_cmp es) order in (above_all e.0 es parts.0, rising es parts.1)

all_below : (k : ℕ) (es : List (ℕ × ℕ)) → Above k es → T (below_all nat_cmp k es)
all_below k [] above = tt
all_below k (e ∷ es) above =
    joins (is_lt (nat_cmp k e.0)) (below_all nat_cmp k es) (subst (λ o. T (is_lt o)) (sym above.0) tt) (all_below k es above.1)

pub in_order : (es : List (ℕ × ℕ)) → IsRising es → IsInOrder es
in_order [] up = tt
in_order (e ∷ es) up = joins (below_all nat_cmp e.0 es) (map.is_sorted nat_cmp es) (all_below e.0 es up.0) (in_order es up.1)

pub rising_parts : (xs ys : List (ℕ × ℕ)) → IsRising (xs ++ ys) → IsRising xs × IsRising ys × AllByRecursion (λ x. Above x.0 ys) xs
rising_parts [] ys up = (tt, up, tt)
rising_parts (x ∷ xs) ys up =
    let parts = rising_parts xs ys up.1 in
    let above = all_parts (λ e. nat_cmp x.0 e.0 ≡ Less) xs ys up.0 in ((above.0, parts.0), parts.1, (above.1, parts.2))

-- numbers that begin by k have those before them below k, and else they are above it
pub first_below : (k x : ℕ) (es : List (ℕ × ℕ)) → begins_by k es ≡ true → Above x es → nat_cmp k x ≡ Greater
first_below k x [] begins above = cc
first_below k x (e ∷ es) begins above =
    let low : e.0 ≤ k = leb-true e.0 k begins in
    let less : x < e.0 = ranked x e.0 Less (sym above.0) in
    let lower : x < k = omega (arith, low, less) in sym (nat_cmp_is k x Greater lower)

pub first_above : (k : ℕ) (es ys : List (ℕ × ℕ)) → 0 < length es → begins_by k es ≡ false → IsRising (es ++ ys) → Above k (es ++ ys)
first_above k [] ys some begins up = absurd (omega (arith, some))
first_above k (e ∷ es) ys some begins up =
    let high : k < e.0 = leb-false e.0 k begins in (
      sym (nat_cmp_is k e.0 Less high),
      all_map (λ y. nat_cmp e.0 y.0 ≡ Less) (λ y. nat_cmp k y.0 ≡ Less) (λ y less.
          let after : e.0 < y.0 = ranked e.0 y.0 Less (sym less) in
          let higher : k < y.0 = omega (arith, high, after) in sym (nat_cmp_is k y.0 Less higher)) (es ++ ys) up.0,
    )

-- a row's blocks
abbrev Blocks : Type 0
Blocks = List (NumberMap ℕ)

pub joined_append : (xs ys : Blocks) → joined (xs ++ ys) ≡ joined xs ++ joined ys
joined_append xs ys = flat_map-append (λ block. map.entries block) xs ys

above_in : (x : ℕ) (blocks : Blocks) (i : ℕ) (d : NumberMap ℕ) → Above x (joined blocks) → i < length blocks
    → Above x (map.entries (get_or blocks i d))
above_in x [] i d above within = absurd (omega (arith, within))
above_in x (b ∷ bs) zero d above within = (all_parts (λ e. nat_cmp x e.0 ≡ Less) (map.entries b) (joined bs) above).0
above_in x (b ∷ bs) (suc i) d above within =
    above_in x bs i d (all_parts (λ e. nat_cmp x e.0 ≡ Less) (map.entries b) (joined bs) above).1 (omega (arith, within))

below_from : (k : ℕ) (blocks : Blocks) (i : ℕ) (d : NumberMap ℕ) → IsRising (joined blocks) → i < length blocks
    → begins_by k (map.entries (get_or blocks i d)) ≡ true → Below k (joined (take i blocks))
below_from k [] i d up within begins = absurd (omega (arith, within))
below_from k (b ∷ bs) zero d up within begins = tt
below_from k (b ∷ bs) (suc i) d up within begins =
    let parts = rising_parts (map.entries b) (joined bs) up in
    let lower : i < length bs = omega (arith, within) in
    all_join (λ e. nat_cmp k e.0 ≡ Greater) (map.entries b) (joined (take i bs))
    (all_map (λ x. Above x.0 (joined bs)) (λ e. nat_cmp k e.0 ≡ Greater) (λ x above.
    first_below k x.0 (map.entries (get_or bs i d)) begins (above_in x.0 bs i d above lower)) (map.entries b) parts.2)
    (below_from k bs i d parts.1 lower begins)

above_from : (k : ℕ) (blocks : Blocks) (i : ℕ) (d : NumberMap ℕ) → IsRising (joined blocks) → AllByRecursion IsBlock blocks
    → i < length blocks → begins_by k (map.entries (get_or blocks i d)) ≡ false → Above k (joined (drop i blocks))
above_from k [] i d up each within begins = absurd (omega (arith, within))
above_from k (b ∷ bs) zero d up each within begins =
    first_above k (map.entries b) (joined bs) (subst (λ n. 0 < n) (map.len-entries b) each.0.0) begins up
above_from k (b ∷ bs) (suc i) d up each within begins =
    above_from k bs i d (rising_parts (map.entries b) (joined bs) up).1 each.1 (omega (arith, within)) begins

one_before : (i : ℕ) → suc i - 1 ≡ i
one_before i = omega arith

module _ (k : ℕ) where
  place_after : (blocks : Blocks) (i : ℕ) (d : NumberMap ℕ) → AreBlocks blocks → i < length blocks
      → begins_by k (map.entries (get_or blocks i d)) ≡ true
      → (suc i < length blocks → begins_by k (map.entries (get_or blocks (suc i) d)) ≡ false) → IsPlace k blocks i
  place_after blocks i d are within begins behind = (
    below_from k blocks i d (rising (joined blocks) are.1) within begins,
    by (cases_lt (suc i) (length blocks)),
    λ none. absurd (omega (arith, none, within)),
  )
    where
      by : (suc i < length blocks) ⊎ (length blocks ≤ suc i) → Above k (joined (drop (suc i) blocks))
      by (inl more) = above_from k blocks (suc i) d (rising (joined blocks) are.1) are.0 more (behind more)
      by (inr last) =
          let all : suc i ≡ length blocks = omega (arith, last, within) in
          subst (λ bs. Above k (joined bs)) (sym (ap (λ j. drop j blocks) all ∙ drop-length blocks)) tt

  place_first : (blocks : Blocks) (d : NumberMap ℕ) → AreBlocks blocks
      → (0 < length blocks → begins_by k (map.entries (get_or blocks 0 d)) ≡ false) → IsPlace k blocks 0
  place_first [] d are behind = (tt, tt, λ none. refl)
  place_first (b ∷ bs) d are behind = (
    tt,
    (all_parts (λ e. nat_cmp k e.0 ≡ Less) (map.entries b) (joined bs)
        (above_from k (b ∷ bs) 0 d (rising (joined (b ∷ bs)) are.1) are.0 (omega arith) (behind (omega arith)))).1,
    λ none. absurd (omega (arith, none)),
  )

  pub place_at : (blocks : Blocks) (n at : ℕ) → AreBlocks blocks → n ≤ length blocks
      → (0 < n → HoldsAt (λ block. begins_by k (map.entries block) ≡ true) blocks (n - 1))
      → (n < length blocks → HoldsAt (λ block. begins_by k (map.entries block) ≡ false) blocks n) → at ≡ n - 1 → IsPlace k blocks at
  place_at blocks zero at are within before behind is =
      subst (IsPlace k blocks) (sym is) (place_first blocks map.empty are (λ some. behind some map.empty))
  place_at blocks (suc i) at are within before behind is =
      let last : suc i - 1 ≡ i = one_before i in
      subst (IsPlace k blocks) (sym (is ∙ last))
      (place_after blocks i map.empty are (omega (arith, within))
      (subst (λ j. begins_by k (map.entries (get_or blocks j map.empty)) ≡ true) last (before (omega arith) map.empty))
      (λ more. behind more map.empty))

-- one block among the others
module _ (k : ℕ) (blocks : Blocks) (i : ℕ) (d : NumberMap ℕ) (are : AreBlocks blocks) (place : IsPlace k blocks i)
    (within : i < length blocks) where
  cut : joined blocks ≡ joined (take i blocks) ++ (map.entries (get_or blocks i d) ++ joined (drop (suc i) blocks))
  cut = ap joined (split_at blocks i d within) ∙ joined_append (take i blocks) (get_or blocks i d ∷ drop (suc i) blocks)

  pub found_here : map.find nat_cmp k (joined blocks) ≡ map.find nat_cmp k (map.entries (get_or blocks i d))
  found_here =
      ap (map.find nat_cmp k) cut ∙ find_before k (joined (take i blocks)) _ place.0
      ∙ find_behind k (map.entries (get_or blocks i d)) (joined (drop (suc i) blocks)) place.1

  put_here : (v : ℕ) → map.put nat_cmp k v (joined blocks)
      ≡ joined (take i blocks) ++ (map.put nat_cmp k v (map.entries (get_or blocks i d)) ++ joined (drop (suc i) blocks))
  put_here v =
      ap (map.put nat_cmp k v) cut ∙ put_before k v (joined (take i blocks)) _ place.0
      ∙ ap (λ es. joined (take i blocks) ++ es)
      (put_behind k v (map.entries (get_or blocks i d)) (joined (drop (suc i) blocks)) place.1)

  without_here : without k (joined blocks)
      ≡ joined (take i blocks) ++ (without k (map.entries (get_or blocks i d)) ++ joined (drop (suc i) blocks))
  without_here =
      ap (without k) cut ∙ without_before k (joined (take i blocks)) _ place.0
      ∙ ap (λ es. joined (take i blocks) ++ es)
      (without_behind k (map.entries (get_or blocks i d)) (joined (drop (suc i) blocks)) place.1)

  -- other blocks in its place
  module _ (pieces : Blocks) (each : AllByRecursion IsBlock pieces) where
    all_blocks : AllByRecursion IsBlock (take i blocks ++ (pieces ++ drop (suc i) blocks))
    all_blocks =
        let parts = all_parts IsBlock (take i blocks) (get_or blocks i d ∷ drop (suc i) blocks)
        (subst (AllByRecursion IsBlock) (split_at blocks i d within) are.0) in
        all_join IsBlock (take i blocks) _ parts.0 (all_join IsBlock pieces (drop (suc i) blocks) each parts.1.1)

    pieces_in : joined (take i blocks ++ (pieces ++ drop (suc i) blocks))
        ≡ joined (take i blocks) ++ (joined pieces ++ joined (drop (suc i) blocks))
    pieces_in =
        joined_append (take i blocks) (pieces ++ drop (suc i) blocks)
        ∙ ap (λ es. joined (take i blocks) ++ es) (joined_append pieces (drop (suc i) blocks))

    module _ (new : Blocks) (is : new ≡ take i blocks ++ (pieces ++ drop (suc i) blocks)) where
      pub set_here : (v : ℕ) → joined pieces ≡ map.put nat_cmp k v (map.entries (get_or blocks i d))
          → AreBlocks new × (joined new ≡ map.put nat_cmp k v (joined blocks))
      set_here v put =
          let all : joined new ≡ map.put nat_cmp k v (joined blocks) =
          ap joined is ∙ pieces_in
          ∙ ap (λ es. joined (take i blocks) ++ (es ++ joined (drop (suc i) blocks))) put ∙ sym (put_here v) in (
            (
              subst (AllByRecursion IsBlock) (sym is) all_blocks,
              subst IsInOrder (sym all) (is_sorted-put nat_cmp nat_cmp_total k v (joined blocks) are.1),
            ),
            all,
          )

      pub taken_here : joined pieces ≡ without k (map.entries (get_or blocks i d))
          → AreBlocks new × (joined new ≡ without k (joined blocks))
      taken_here left =
          let all : joined new ≡ without k (joined blocks) =
          ap joined is ∙ pieces_in
          ∙ ap (λ es. joined (take i blocks) ++ (es ++ joined (drop (suc i) blocks))) left ∙ sym without_here in (
            (
              subst (AllByRecursion IsBlock) (sym is) all_blocks,
              subst IsInOrder (sym all) (is_sorted-where_key nat_cmp (λ n. not (eq_by_cmp nat_cmp k n)) (joined blocks) are.1),
            ),
            all,
          )

pub begins_empty : (k n : ℕ) (es : List (ℕ × ℕ)) → n ≡ length es → n ≡ 0 → false ≡ begins_by k es
begins_empty k n [] is none = refl
begins_empty k n (e ∷ es) is none = absurd (omega (arith, is, none))

pub begins_first : (k n : ℕ) (es : List (ℕ × ℕ)) (d : ℕ × ℕ) → n ≡ length es → (n ≡ 0 → ⊥) → d ≡ get_or es 0 d
    → nat_le d.0 k ≡ begins_by k es
begins_first k n [] d is some at = absurd (some is)
begins_first k n (e ∷ es) d is some at = ap (λ x. nat_le x.0 k) at
