-- Rows as blocks, with how many numbers they have.
use Rattle.std.proofs.Common.{add-one, ◌++◌, ◌≡◌, ◌<◌, ◌≤◌, ◌+◌, ◌-◌, ℕ, suc, zero, List, [], ◌∷◌, Bool, true, false, cond, length, set, remove, get_or, insert, is_some, refl, ap, ap₂, sym, subst, ◌∙◌, arith}
use Rattle.std.specs.Prelude.{Option, Some, None, Result, Ok, Err, OnOk, OnErr, SomeIff}
use Rattle.std.specs.FinMap as map
use Rattle.std.specs.FinMap.Entries.{length-put, length_without}
use Rattle.std.specs.Ordering.{nat_cmp}
use Rattle.std.proofs.lemmas.Cmp.{nat_cmp_total}
use Rattle.std.proofs.lemmas.List.{append-nil, drop-set-lt, set_split, take-set}
use Rattle.doc_index_tables.specs.Blocks.{AreBlocks, IsBlock, IsPlace, IsStart, joined, without}
use Rattle.doc_index_tables.specs.Maps.{NumberMap}
use Rattle.doc_index_tables.proofs.BlockSteps.{all_at, all_map, found_here, set_here, taken_here}
use Rattle.doc_index_tables.proofs.HalfSteps.{entries_grown, entries_none, grown, joined_two, set_after}
use Rattle.doc_index_tables.proofs.PlaceSteps.{entries_are, found_in, put_in, without_in}

-- an edit of one block, or of what takes its place
module _ (k : ℕ) (blocks new : List (NumberMap ℕ)) (i : ℕ) (d : NumberMap ℕ) (are : AreBlocks blocks) (place : IsPlace k blocks i)
    (within : i < length blocks) where
  pub one_set : (v : ℕ) (b : NumberMap ℕ) → map.len (get_or blocks i d) < 512 → b ≡ map.insert (get_or blocks i d) k v
      → new ≡ set blocks i b → AreBlocks new × (joined new ≡ map.put nat_cmp k v (joined blocks))
  one_set v b small is put =
      set_here k blocks i d are place within (b ∷ [])
      (grown k v (get_or blocks i d) b is (all_at IsBlock blocks i d are.0 within).0 small, tt) new (put ∙ set_split blocks i b within) v
      (append-nil (map.entries b) ∙ entries_grown k v (get_or blocks i d) b is)

  pub two_set : (v : ℕ) (lower upper : NumberMap ℕ) (more : List (NumberMap ℕ)) → IsBlock lower × IsBlock upper
      → map.entries lower ++ map.entries upper ≡ map.put nat_cmp k v (map.entries (get_or blocks i d))
      → more ≡ insert blocks (i + 1) upper → new ≡ set more i lower
      → AreBlocks new × (joined new ≡ map.put nat_cmp k v (joined blocks))
  two_set v lower upper more each numbers inserted put =
      set_here k blocks i d are place within (lower ∷ upper ∷ []) (each.0, (each.1, tt)) new
      (put ∙ ap (λ bs. set bs i lower) (inserted ∙ ap (λ j. insert blocks j upper) (add-one i)) ∙ set_after blocks i lower upper within) v
      (joined_two k v (get_or blocks i d) lower upper numbers)

  module _ (b : NumberMap ℕ) (is : b ≡ map.remove (get_or blocks i d) k) where
    left : map.entries b ≡ without k (map.entries (get_or blocks i d))
    left =
        let there = without_in (map.entries (get_or blocks i d)) (map.entries_sorted (get_or blocks i d)) (get_or blocks i d)
        (map.same_entries_map _ _ (map.entries-from_sorted nat_cmp (map.entries (get_or blocks i d))
        (map.entries_sorted (get_or blocks i d)))) k (without k (map.entries (get_or blocks i d))) refl in
        ap map.entries (is ∙ sym there.1)
        ∙ map.entries-from_sorted nat_cmp (without k (map.entries (get_or blocks i d))) there.0

    fewer : map.len b ≤ 512
    fewer =
        let size : map.len (get_or blocks i d) ≤ 512 = (all_at IsBlock blocks i d are.0 within).1 in
        subst (λ n. n ≤ 512) (sym (ap map.len is ∙ map.len-remove nat_cmp_total (get_or blocks i d) k))
        (by size (map.contains_key (get_or blocks i d) k))
      where
        by : map.len (get_or blocks i d) ≤ 512 → (c : Bool)
            → cond c (map.len (get_or blocks i d) - 1) (map.len (get_or blocks i d)) ≤ 512
        by size true = omega (arith, size)
        by size false = size

    pub one_taken : (map.len b ≡ 0 → ⊥) → new ≡ set blocks i b → AreBlocks new × (joined new ≡ without k (joined blocks))
    one_taken some put =
        taken_here k blocks i d are place within (b ∷ []) ((omega (arith, some), fewer), tt) new
        (put ∙ set_split blocks i b within) (append-nil (map.entries b) ∙ left)

    pub none_left : (mid : List (NumberMap ℕ)) → map.len b ≡ 0 → mid ≡ set blocks i b → new ≡ remove mid i
        → AreBlocks new × (joined new ≡ without k (joined blocks))
    none_left mid none put gone =
        taken_here k blocks i d are place within [] tt new
        (gone ∙ ap (λ bs. remove bs i) put
        ∙ ap₂ (λ xs ys. xs ++ ys) (take-set blocks i b) (drop-set-lt (suc i) blocks i b (omega arith)))
        (sym (entries_none b none) ∙ left)

module _ (blocks : List (NumberMap ℕ)) (count : ℕ) (m : NumberMap ℕ) (kept : AreBlocks blocks × (count ≡ length (joined blocks)))
    (is : map.from_sorted (joined blocks) ≡ m) where
  pub all_entries : map.entries m ≡ joined blocks
  all_entries = entries_are (joined blocks) kept.0.1 m is

  pub counted : count ≡ map.len m
  counted = kept.1 ∙ sym (map.len-entries m ∙ ap length all_entries)

  pub got_here : (k i : ℕ) (d : NumberMap ℕ) → IsPlace k blocks i → i < length blocks → map.get (get_or blocks i d) k ≡ map.get m k
  got_here k i d place within =
      map.get-entries (get_or blocks i d) k ∙ sym (found_here k blocks i d kept.0 place within)
      ∙ found_in (joined blocks) kept.0.1 m is k

  pub got_nowhere : (k i : ℕ) → IsPlace k blocks i → length blocks ≤ i → None ≡ map.get m k
  got_nowhere k i place none =
      sym (ap (λ bs. map.find nat_cmp k (joined bs)) (place.2 none)) ∙ found_in (joined blocks) kept.0.1 m is k

  pub got_at_place : (k i : ℕ) (there here : List (NumberMap ℕ)) → there ≡ blocks → here ≡ blocks → IsPlace k there i → i < length here
      → (b : NumberMap ℕ) → b ≡ get_or here i b → map.get b k ≡ map.get m k
  got_at_place k i there here same too found less b at =
      ap (λ x. map.get x k) (at ∙ ap (λ bs. get_or bs i b) too)
      ∙ got_here k i b (subst (λ bs. IsPlace k bs i) same found) (subst (λ bs. i < length bs) too less)

  pub got_no_place : (k i : ℕ) (there here : List (NumberMap ℕ)) → there ≡ blocks → here ≡ blocks → IsPlace k there i → length here ≤ i
      → None ≡ map.get m k
  got_no_place k i there here same too found last =
      got_nowhere k i (subst (λ bs. IsPlace k bs i) same found) (subst (λ bs. length bs ≤ i) too last)

  module _ (k : ℕ) (new : List (NumberMap ℕ)) where
    pub set_is : (v : ℕ) → joined new ≡ map.put nat_cmp k v (joined blocks) → map.from_sorted (joined new) ≡ map.insert m k v
    set_is v put = (put_in (joined blocks) kept.0.1 m is k v (joined new) put).1

    pub taken_is : joined new ≡ without k (joined blocks) → map.from_sorted (joined new) ≡ map.remove m k
    taken_is gone = (without_in (joined blocks) kept.0.1 m is k (joined new) gone).1

    found_as : (b : Bool) → is_some (map.get m k) ≡ b → is_some (map.find nat_cmp k (joined blocks)) ≡ b
    found_as b known = ap is_some (found_in (joined blocks) kept.0.1 m is k) ∙ known

    pub count_known : (v : ℕ) → is_some (map.get m k) ≡ true → joined new ≡ map.put nat_cmp k v (joined blocks)
        → count ≡ length (joined new)
    count_known v known put =
        kept.1
        ∙ sym (ap length put ∙ length-put nat_cmp nat_cmp_total k v (joined blocks) kept.0.1
        ∙ ap (λ b. cond b (length (joined blocks)) (length (joined blocks) + 1)) (found_as true known))

    pub count_new : (v : ℕ) → is_some (map.get m k) ≡ false → joined new ≡ map.put nat_cmp k v (joined blocks)
        → count + 1 ≡ length (joined new)
    count_new v known put =
        ap (λ n. n + 1) kept.1
        ∙ sym (ap length put ∙ length-put nat_cmp nat_cmp_total k v (joined blocks) kept.0.1
        ∙ ap (λ b. cond b (length (joined blocks)) (length (joined blocks) + 1)) (found_as false known))

    with_it : is_some (map.get m k) ≡ true → count ≡ 1 + length (without k (joined blocks))
    with_it known =
        kept.1 ∙ sym (length_without nat_cmp nat_cmp_total k (joined blocks) kept.0.1)
        ∙ ap (λ b. cond b 1 0 + length (without k (joined blocks))) (found_as true known)

    pub count_taken : is_some (map.get m k) ≡ true → joined new ≡ without k (joined blocks) → count - 1 ≡ length (joined new)
    count_taken known gone =
        let all : count ≡ 1 + length (without k (joined blocks)) = with_it known in
        let same : length (joined new) ≡ length (without k (joined blocks)) = ap length gone in omega (arith, all, same)

    pub some_left : is_some (map.get m k) ≡ true → 1 ≤ count
    some_left known = let all : count ≡ 1 + length (without k (joined blocks)) = with_it known in omega (arith, all)

-- a number that was known is set, or memory is refused
pub known_set : {X E : Type 0} (r : Result X E) (blocks new : List (NumberMap ℕ)) (count : ℕ) (m : NumberMap ℕ)
    → AreBlocks blocks × (count ≡ length (joined blocks)) → map.from_sorted (joined blocks) ≡ m → (k v : ℕ)
    → is_some (map.get m k) ≡ true → OnOk r (AreBlocks new) → OnOk r (joined new ≡ map.put nat_cmp k v (joined blocks))
    → OnErr r (new ≡ blocks) → AreBlocks new × (count ≡ length (joined new))
known_set (Ok x) blocks new count m kept is k v known are put err = (are, count_known blocks count m kept is k new v known put)
known_set (Err x) blocks new count m kept is k v known are put err =
    subst (λ bs. AreBlocks bs × (count ≡ length (joined bs))) (sym err) kept

pub starts : (blocks : List (NumberMap ℕ)) → AreBlocks blocks → IsStart 0 blocks
starts [] are = tt
starts (b ∷ bs) are = (omega arith, all_map IsBlock (λ c. 0 < map.len c) (λ c block. block.0) bs are.0.1)

got_same : {X : Type 0} (xs : List X) (i : ℕ) (d e : X) → i < length xs → get_or xs i d ≡ get_or xs i e
got_same [] i d e within = absurd (omega (arith, within))
got_same (x ∷ xs) zero d e within = refl
got_same (x ∷ xs) (suc i) d e within = got_same xs i d e (omega (arith, within))

got_set : {X : Type 0} (xs : List X) (i : ℕ) (x d : X) → i < length xs → get_or (set xs i x) i d ≡ x
got_set [] i x d within = absurd (omega (arith, within))
got_set (y ∷ xs) zero x d within = refl
got_set (y ∷ xs) (suc i) x d within = got_set xs i x d (omega (arith, within))

-- an edit at the place that was found
module _ (k : ℕ) (blocks there : List (NumberMap ℕ)) (i n m : ℕ) (seen old b : NumberMap ℕ) (are : AreBlocks blocks)
    (same : there ≡ blocks) (found : IsPlace k there i) (all : n ≡ length blocks) (less : i < n) (size : m ≡ map.len seen)
    (stood : old ≡ get_or blocks i old) where
  place : IsPlace k blocks i
  place = subst (λ bs. IsPlace k bs i) same found

  within : i < length blocks
  within = subst (λ j. i < j) all less

  pub set_at_place : (v : ℕ) → m < 512 → seen ≡ get_or blocks i seen → b ≡ map.insert old k v
      → AreBlocks (set blocks i b) × (joined (set blocks i b) ≡ map.put nat_cmp k v (joined blocks))
  set_at_place v small stands is =
      one_set k blocks (set blocks i b) i old are place within v b
      (subst (λ x. map.len x < 512) (stands ∙ got_same blocks i seen old within) (subst (λ j. j < 512) size small))
      (is ∙ ap (λ x. map.insert x k v) stood) refl

  module _ (stands : seen ≡ get_or (set blocks i b) i seen) (is : b ≡ map.remove old k) where
    seen_is : m ≡ map.len b
    seen_is = size ∙ ap map.len (stands ∙ got_set blocks i b seen within)

    pub taken_at_place : (m ≡ 0 → ⊥) → AreBlocks (set blocks i b) × (joined (set blocks i b) ≡ without k (joined blocks))
    taken_at_place some =
        one_taken k blocks (set blocks i b) i old are place within b (is ∙ ap (λ x. map.remove x k) stood)
        (λ none. some (seen_is ∙ none)) refl

    pub gone_at_place : (new : List (NumberMap ℕ)) → m ≡ 0 → new ≡ remove (set blocks i b) i
        → AreBlocks new × (joined new ≡ without k (joined blocks))
    gone_at_place new none gone =
        none_left k blocks new i old are place within b (is ∙ ap (λ x. map.remove x k) stood) (set blocks i b)
        (sym seen_is ∙ none) refl gone

pub counted_on : (r : Option ℕ) (y n : ℕ) → SomeIff r (n + 1 < 18446744073709551616) (n + 1) → r ≡ Some y → y ≡ n + 1
counted_on r y n given is = by y (subst (λ x. SomeIff x (n + 1 < 18446744073709551616) (n + 1)) is given)
  where
    by : (y : ℕ) → SomeIff (Some y) (n + 1 < 18446744073709551616) (n + 1) → y ≡ n + 1
    by y h = h.1

pub smaller : (k : ℕ) (m new : NumberMap ℕ) → new ≡ map.remove m k → map.len m ≤ 512 → map.len new ≤ 512
smaller k m new is small =
    subst (λ n. n ≤ 512) (sym (ap map.len is ∙ map.len-remove nat_cmp_total m k)) (by small (map.contains_key m k))
  where
    by : map.len m ≤ 512 → (c : Bool) → cond c (map.len m - 1) (map.len m) ≤ 512
    by small true = omega (arith, small)
    by small false = small

pub larger : {X E : Type 0} (r : Result X E) (k v n : ℕ) (m new : NumberMap ℕ) → OnOk r (new ≡ map.insert m k v) → OnErr r (new ≡ m)
    → n ≡ map.len m → n < 512 → map.len new ≤ 512
larger (Ok x) k v n m new is same size small =
    subst (λ j. j ≤ 512) (sym (ap map.len is ∙ map.len-insert nat_cmp_total m k v))
    (by (subst (λ j. j < 512) size small) (map.contains_key m k))
  where
    by : map.len m < 512 → (c : Bool) → cond c (map.len m) (map.len m + 1) ≤ 512
    by small true = omega (arith, small)
    by small false = omega (arith, small)
larger (Err x) k v n m new is same size small = let less : map.len m < 512 = subst (λ j. j < 512) size small in
    subst (λ b. map.len b ≤ 512) (sym same) (omega (arith, less))

pub is_full : (n : ℕ) (m : NumberMap ℕ) → n ≡ map.len m → 512 ≤ n → map.len m ≤ 512 → map.len m ≡ 512
is_full n m size full small = omega (arith, size, full, small)
