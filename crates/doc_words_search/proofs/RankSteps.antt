-- Hits in their order, whatever order they came in.
use Rattle.std.proofs.Common.{◌≡◌, ℕ, suc, ◌+◌, ◌<◌, ◌≤◌, List, [], ◌∷◌, ◌++◌, length, take, Bool, true, false, cond, if◌then◌else◌, arith}
use Rattle.std.proofs.Common.{refl, ap, ap₂, sym, subst, ◌∙◌, Ordering, Less, Equal, Greater, is_eq, is_lt, nat_cmp, sum_by, zero-le}
use Rattle.std.specs.Prelude.{map as mapped, slice_index_or}
use Rattle.std.specs.Cmp.{IsTotalOrder}
use Rattle.std.specs.Cmp.Lexicographic.{slice_cmp}
use Rattle.std.specs.FinMap.{nat_cmp-IsAntisymmetric, slice_cmp-IsAntisymmetric}
use Rattle.std.specs.List.Sorted.{IsPermutation, IsSortedBy}
use Rattle.std.specs.Ordering.{ordering_reverse, ordering_then}
use Rattle.std.proofs.lemmas.Cmp.{nat_cmp_total, nat_list_cmp_total, on_total, then_total, back_total, tied_itself}
use Rattle.std.proofs.Math.Seq.{take-append_seam}
use Rattle.std.proofs.lemmas.List.{length-map, map-append, take_all}
use Rattle.std.proofs.lemmas.List.Sorted.{sum_by-IsPermutation}
use Rattle.std.proofs.lemmas.List.Sums.{sum_by-append, sum_by-cons}
use Rattle.doc_words_search.specs.declared.hit.Hit.{Hit}
use Rattle.doc_words_search.specs.Searches.{placed, rank_cmp, ranked}
use Rattle.doc_page_parts.proofs.Orders.{is_eq_true, is_lt_true}

rank_total : IsTotalOrder rank_cmp
rank_total = then_total (on_total (λ (h : Hit). h.score) (back_total nat_cmp_total)) (on_total (λ (h : Hit). h.path) nat_list_cmp_total)

abbrev made : List ℕ → ℕ → Hit
made path score = record { path = path; score = score }

-- only a hit itself ties with it
rank_exact : (a b : Hit) → rank_cmp a b ≡ Equal → a ≡ b
rank_exact a b e = by (nat_cmp b.score a.score) refl e
  where
    by : (o : Ordering) → nat_cmp b.score a.score ≡ o → ordering_then o (slice_cmp nat_cmp a.path b.path) ≡ Equal → a ≡ b
    by Less p e = cc
    by Equal p e =
        ap₂ made (slice_cmp-IsAntisymmetric nat_cmp-IsAntisymmetric a.path b.path e) (sym (nat_cmp-IsAntisymmetric b.score a.score p))
    by Greater p e = cc

abbrev pub before : Hit → Hit → Bool
before a b = is_lt (rank_cmp a b)

trans_before : (a b c : Hit) → before a b ≡ true → before b c ≡ true → before a c ≡ true
trans_before a b c p q = ap is_lt (rank_total.trans a b c (is_lt_true (rank_cmp a b) p) (is_lt_true (rank_cmp b c) q))

not_back : (a b : Hit) → before a b ≡ true → before b a ≡ false
not_back a b p = ap is_lt (rank_total.antisymm b a ∙ ap ordering_reverse (is_lt_true (rank_cmp a b) p))

-- where a hit goes, by its test against the first
goes_behind : (h o : Hit) (hits : List Hit) → before o h ≡ true → placed h (o ∷ hits) ≡ o ∷ placed h hits
goes_behind h o hits e = ap (λ b. if b then o ∷ placed h hits else h ∷ o ∷ hits) e

goes_first : (h o : Hit) (hits : List Hit) → before o h ≡ false → placed h (o ∷ hits) ≡ h ∷ o ∷ hits
goes_first h o hits e = ap (λ b. if b then o ∷ placed h hits else h ∷ o ∷ hits) e

-- a hit and a later one may be placed in either turn
turned : (x y : Hit) → before x y ≡ true → (hits : List Hit) → placed x (placed y hits) ≡ placed y (placed x hits)
turned x y e [] = goes_first x y [] (not_back x y e) ∙ sym (goes_behind y x [] e)
turned x y e (z ∷ hits) = by (turned x y e hits) (before z x) refl (before z y) refl
  where
    by : placed x (placed y hits) ≡ placed y (placed x hits) → (a : Bool) → before z x ≡ a → (b : Bool) → before z y ≡ b
        → placed x (placed y (z ∷ hits)) ≡ placed y (placed x (z ∷ hits))
    by ih true p true q =
        ap (placed x) (goes_behind y z hits q) ∙ goes_behind x z (placed y hits) p
        ∙ ap (λ hs. z ∷ hs) ih
        ∙ sym (ap (placed y) (goes_behind x z hits p) ∙ goes_behind y z (placed x hits) q)
    by ih true p false q = let r : before z y ≡ true = trans_before z x y p e in cc
    by ih false p true q =
        ap (placed x) (goes_behind y z hits q) ∙ goes_first x z (placed y hits) p
        ∙ sym (ap (placed y) (goes_first x z hits p) ∙ goes_behind y x (z ∷ hits) e ∙ ap (λ hs. x ∷ hs) (goes_behind y z hits q))
    by ih false p false q =
        ap (placed x) (goes_first y z hits q) ∙ goes_first x y (z ∷ hits) (not_back x y e)
        ∙ sym (ap (placed y) (goes_first x z hits p) ∙ goes_behind y x (z ∷ hits) e ∙ ap (λ hs. x ∷ hs) (goes_first y z hits q))

either_turn : (x y : Hit) (hits : List Hit) → placed x (placed y hits) ≡ placed y (placed x hits)
either_turn x y hits = by (rank_cmp x y) refl
  where
    by : (o : Ordering) → rank_cmp x y ≡ o → placed x (placed y hits) ≡ placed y (placed x hits)
    by Less p = turned x y (ap is_lt p) hits
    by Equal p = let same : x ≡ y = rank_exact x y p in ap₂ (λ a b. placed a (placed b hits)) same (sym same)
    by Greater p = sym (turned y x (ap is_lt (rank_total.antisymm y x ∙ ap ordering_reverse p)) hits)

ranked_middle : (front back : List Hit) (h : Hit) → ranked (front ++ h ∷ back) ≡ placed h (ranked (front ++ back))
ranked_middle [] back h = refl
ranked_middle (x ∷ front) back h = ap (placed x) (ranked_middle front back h) ∙ either_turn x h (ranked (front ++ back))

-- a list with a hit in it
record Parts (h : Hit) (hits : List Hit) : Type 0 where
  pub front : List Hit
  pub back : List Hit
  pub is : hits ≡ front ++ h ∷ back

abbrev one : Hit → Hit → ℕ
one h other = cond (is_eq (rank_cmp h other)) 1 0

part : (h : Hit) (hits : List Hit) (n : ℕ) → sum_by (one h) hits ≡ suc n → Parts h hits
part h [] n e = absurd (omega arith)
part h (x ∷ hits) n e = by (is_eq (rank_cmp h x)) refl (sym (sum_by-cons (one h) x hits) ∙ e) (part h hits n)
  where
    by : (b : Bool) → is_eq (rank_cmp h x) ≡ b → one h x + sum_by (one h) hits ≡ suc n → (sum_by (one h) hits ≡ suc n → Parts h hits)
        → Parts h (x ∷ hits)
    by true p q ih = record {
      front = [];
      back = hits;
      is = ap (λ y. y ∷ hits) (sym (rank_exact h x (is_eq_true (rank_cmp h x) p)));
    }
    by false p q ih =
        let none : one h x ≡ 0 = ap (λ b. cond b 1 0) p in
        let rest = ih (omega arith) in
        record { front = x ∷ rest.front; back = rest.back; is = ap (λ hs. x ∷ hs) rest.is }

-- the lists have the same hits, each as often
pub record HasSame (xs ys : List Hit) : Type 0 where
  pub sums : (f : Hit → ℕ) → sum_by f xs ≡ sum_by f ys

nothing : (ys : List Hit) → sum_by (λ _. 1) ys ≡ 0 → [] ≡ ys
nothing [] e = refl
nothing (y ∷ ys) e = let more : sum_by (λ _. 1) (y ∷ ys) ≡ 1 + sum_by (λ _. 1) ys = sum_by-cons (λ _. 1) y ys in absurd (omega arith)

pub same_ranked : (xs ys : List Hit) → HasSame xs ys → ranked xs ≡ ranked ys
same_ranked [] ys same = ap ranked (nothing ys (sym (same.sums (λ _. 1))))
same_ranked (x ∷ xs) ys same =
    let itself : one x x ≡ 1 = ap (λ o. cond (is_eq o) 1 0) (tied_itself rank_total x) in
    let first : sum_by (one x) (x ∷ xs) ≡ one x x + sum_by (one x) xs = sum_by-cons (one x) x xs in
    let there : sum_by (one x) (x ∷ xs) ≡ sum_by (one x) ys = same.sums (one x) in
    let found = part x ys (sum_by (one x) xs) (omega arith) in
    ap (placed x) (same_ranked xs (found.front ++ found.back) (record { sums = λ f. left f found }))
    ∙ sym (ranked_middle found.front found.back x) ∙ ap ranked (sym found.is)
  where
    left : (f : Hit → ℕ) (found : Parts x ys) → sum_by f xs ≡ sum_by f (found.front ++ found.back)
    left f found =
        let a : sum_by f (x ∷ xs) ≡ f x + sum_by f xs = sum_by-cons f x xs in
        let b : sum_by f (x ∷ xs) ≡ sum_by f (found.front ++ x ∷ found.back) = same.sums f ∙ ap (sum_by f) found.is in
        let c : sum_by f (found.front ++ x ∷ found.back) ≡ sum_by f found.front + sum_by f (x ∷ found.back)
        = sum_by-append f found.front (x ∷ found.back) in
        let d : sum_by f (x ∷ found.back) ≡ f x + sum_by f found.back = sum_by-cons f x found.back in
        let e : sum_by f (found.front ++ found.back) ≡ sum_by f found.front + sum_by f found.back
        = sum_by-append f found.front found.back in
        omega arith

-- none of these comes before a hit
abbrev NoneBefore : Hit → List Hit → Type 0
NoneBefore h [] = Unit {0}
NoneBefore h (y ∷ ys) = (before y h ≡ false) × NoneBefore h ys

-- nor before any of these
abbrev Apart : List Hit → List Hit → Type 0
Apart [] back = Unit {0}
Apart (x ∷ front) back = NoneBefore x back × Apart front back

none_placed : (h y : Hit) (ys : List Hit) → before y h ≡ false → NoneBefore h ys → NoneBefore h (placed y ys)
none_placed h y [] e none = (e, tt)
none_placed h y (z ∷ ys) e none = by (none_placed h y ys e none.1) (before z y) refl
  where
    by : NoneBefore h (placed y ys) → (b : Bool) → before z y ≡ b → NoneBefore h (placed y (z ∷ ys))
    by ih true p = subst (NoneBefore h) (sym (goes_behind y z ys p)) (none.0, ih)
    by ih false p = subst (NoneBefore h) (sym (goes_first y z ys p)) (e, none)

none_ranked : (h : Hit) (ys : List Hit) → NoneBefore h ys → NoneBefore h (ranked ys)
none_ranked h [] none = tt
none_ranked h (y ∷ ys) none = none_placed h y (ranked ys) none.0 (none_ranked h ys none.1)

placed_in_front : (h : Hit) (front back : List Hit) → NoneBefore h back → placed h (front ++ back) ≡ placed h front ++ back
placed_in_front h [] [] none = refl
placed_in_front h [] (b ∷ back) none = goes_first h b back none.0
placed_in_front h (a ∷ front) back none = by (placed_in_front h front back none) (before a h) refl
  where
    by : placed h (front ++ back) ≡ placed h front ++ back → (b : Bool) → before a h ≡ b
        → placed h (a ∷ front ++ back) ≡ placed h (a ∷ front) ++ back
    by ih true p =
        goes_behind h a (front ++ back) p ∙ ap (λ hs. a ∷ hs) ih ∙ sym (ap (λ hs. hs ++ back) (goes_behind h a front p))
    by ih false p = goes_first h a (front ++ back) p ∙ sym (ap (λ hs. hs ++ back) (goes_first h a front p))

-- those that come first may be put in their order alone
ranked_apart : (front back : List Hit) → Apart front back → ranked (front ++ back) ≡ ranked front ++ ranked back
ranked_apart [] back apart = refl
ranked_apart (x ∷ front) back apart =
    ap (placed x) (ranked_apart front back apart.1)
    ∙ placed_in_front x (ranked front) (ranked back) (none_ranked x back apart.0)

length_placed : (h : Hit) (hits : List Hit) → length (placed h hits) ≡ suc (length hits)
length_placed h [] = refl
length_placed h (z ∷ hits) = by (length_placed h hits) (before z h) refl
  where
    by : length (placed h hits) ≡ suc (length hits) → (b : Bool) → before z h ≡ b → length (placed h (z ∷ hits)) ≡ suc (length (z ∷ hits))
    by ih true p = ap length (goes_behind h z hits p) ∙ ap suc ih
    by ih false p = ap length (goes_first h z hits p)

-- ranking keeps how many there are
pub length_ranked : (hits : List Hit) → length (ranked hits) ≡ length hits
length_ranked [] = refl
length_ranked (h ∷ hits) = length_placed h (ranked hits) ∙ ap suc (length_ranked hits)

not_between : (b x a : Hit) → before b x ≡ false → before x a ≡ false → before b a ≡ false
not_between b x a p q = by (before b a) refl (rank_cmp x a) refl
  where
    by : (t : Bool) → before b a ≡ t → (o : Ordering) → rank_cmp x a ≡ o → before b a ≡ false
    by false r o e = r
    by true r Less e = let s : before x a ≡ true = ap is_lt e in cc
    by true r Equal e = subst (λ y. before b y ≡ false) (rank_exact x a e) p
    by true r Greater e =
        let s : before a x ≡ true = ap is_lt (rank_total.antisymm a x ∙ ap ordering_reverse e) in
        let t : before b x ≡ true = trans_before b a x r s in
        cc

later : (k : ℕ) → suc k + 1 ≡ suc (k + 1)
later k = omega arith

module _ {X : Type 0} (f : X → Hit) where
  sum_mapped : (g : Hit → ℕ) (xs : List X) → sum_by g (mapped f xs) ≡ sum_by (λ x. g (f x)) xs
  sum_mapped g [] = refl
  sum_mapped g (x ∷ xs) =
      sum_by-cons g (f x) (mapped f xs) ∙ ap (λ n. g (f x) + n) (sum_mapped g xs) ∙ sym (sum_by-cons (λ y. g (f y)) x xs)

  -- what is sorted stays as it is
  ranked_sorted : (xs : List X) → IsSortedBy (λ a b. before (f a) (f b)) xs → ranked (mapped f xs) ≡ mapped f xs
  ranked_sorted [] sorted = refl
  ranked_sorted (x ∷ []) sorted = refl
  ranked_sorted (x ∷ y ∷ xs) sorted =
      ap (placed (f x)) (ranked_sorted (y ∷ xs) (λ k d low high. subst
      (λ n. before (f (slice_index_or (x ∷ y ∷ xs) n d)) (f (slice_index_or (y ∷ xs) k d)) ≡ false)
      (later k) (sorted (suc k) d zero-le (omega arith))))
      ∙ goes_first (f x) (f y) (mapped f xs) (sorted 0 x zero-le (omega arith))

  -- a list that was sorted has the hits in their order
  pub sorted_is : (old new : List X) → IsPermutation old new → IsSortedBy (λ a b. before (f a) (f b)) new
      → mapped f new ≡ ranked (mapped f old)
  sorted_is old new same sorted =
      sym (ranked_sorted new sorted)
      ∙ same_ranked (mapped f new) (mapped f old) (record {
        sums = λ g. sum_mapped g new ∙ sum_by-IsPermutation (λ x. g (f x)) old new same ∙ sym (sum_mapped g old);
      })

  none_from : (a : Hit) (x : X) (back : List X) → before (f x) a ≡ false
      → ((k : ℕ) (d : X) → k < length back → before (f (slice_index_or back k d)) (f x) ≡ false) → NoneBefore a (mapped f back)
  none_from a x [] e later = tt
  none_from a x (b ∷ back) e later =
      (not_between (f b) (f x) a (later 0 b (omega arith)) e, none_from a x back e (λ k d low. later (suc k) d (omega arith)))

  apart_from : (front : List X) (x : X) (back : List X)
      → ((k : ℕ) (d : X) → k < length front → before (f x) (f (slice_index_or front k d)) ≡ false)
      → ((k : ℕ) (d : X) → k < length back → before (f (slice_index_or back k d)) (f x) ≡ false)
      → Apart (mapped f front) (mapped f (x ∷ back))
  apart_from [] x back first later = tt
  apart_from (a ∷ front) x back first later = (
    (first 0 a (omega arith), none_from (f a) x back (first 0 a (omega arith)) later),
    apart_from front x back (λ k d low. first (suc k) d (omega arith)) later,
  )

  -- of a list that was split at a place the front holds those that come first
  pub front_is : (old front : List X) (x : X) (back : List X) (n : ℕ) → IsPermutation old (front ++ x ∷ back) → length front ≡ n
      → ((k : ℕ) (d : X) → k < length front → before (f x) (f (slice_index_or front k d)) ≡ false)
      → ((k : ℕ) (d : X) → k < length back → before (f (slice_index_or back k d)) (f x) ≡ false)
      → ranked (mapped f front) ≡ take n (ranked (mapped f old))
  front_is old front x back n same len first later =
      sym (take-append_seam (ranked (mapped f front)) (ranked (mapped f (x ∷ back))))
      ∙ ap₂ take (length_ranked (mapped f front) ∙ length-map front f ∙ len)
      (sym (ranked_apart (mapped f front) (mapped f (x ∷ back)) (apart_from front x back first later))
      ∙ ap ranked (sym (map-append f front (x ∷ back)))
      ∙ same_ranked (mapped f (front ++ x ∷ back)) (mapped f old) (record {
        sums = λ g. sum_mapped g (front ++ x ∷ back)
            ∙ sum_by-IsPermutation (λ x. g (f x)) old (front ++ x ∷ back) same ∙ sym (sum_mapped g old);
      }))

  -- of a short list all are
  pub all_first : (xs : List X) (n : ℕ) → length xs ≤ n → ranked (mapped f xs) ≡ take n (ranked (mapped f xs))
  all_first xs n short =
      sym (take_all n (ranked (mapped f xs)) (subst (λ k. k ≤ n) (sym (length_ranked (mapped f xs) ∙ length-map xs f)) short))
