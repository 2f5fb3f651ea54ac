-- Hits by their places among slots that come in the order of their paths.
use Rattle.std.proofs.Common.{◌≡◌, ℕ, suc, ◌+◌, ◌<◌, ◌≤◌, List, [], ◌∷◌, ◌++◌, length, take, drop, get_or, false, IsTrue, arith}
use Rattle.std.proofs.Common.{refl, ap, ap₂, sym, subst, ◌∙◌, inl, inr, is_some, length-take, lt-ltb, Ordering, Less, Equal, Greater, is_lt, nat_cmp, append-nil, append_assoc}
use Rattle.std.specs.Prelude.{Option, Some, None, map as mapped}
use Rattle.std.specs.Cmp.Lexicographic.{slice_cmp}
use Rattle.std.specs.List.{All, AllByRecursion, enumerate_from, flat_map}
use Rattle.std.specs.List.Sorted.{IsPermutation, IsSorted, IsSplitAround}
use Rattle.std.specs.Ordering.{ordering_reverse, ordering_then}
use Rattle.std.proofs.lemmas.Bool.{cases_lt}
use Rattle.std.proofs.lemmas.Cmp.{nat_list_cmp_total, tied_itself}
use Rattle.std.proofs.lemmas.List.{length-map, map-append, take_more}
use Rattle.std.proofs.lemmas.List.Elements.{All-append, All-cons, All-drop, All-head, All-nil, All-same, All-tail, All-take, recursion_from_All}
use Rattle.std.proofs.lemmas.List.Sorted.{All-permutation}
use Rattle.std.proofs.lemmas.Map.Keys.{Less-from_sorted}
use Rattle.std.proofs.Math.ListN.{get_or-map}
use Rattle.std.proofs.Math.Seq.{drop-append_seam, take-append_seam}
use Rattle.doc_index.specs.declared.held.Held.{Held}
use Rattle.doc_index.specs.Held.{slot_at}
use Rattle.doc_index_tables.specs.Maps.{pair_cmp}
use Rattle.doc_words_search.specs.declared.hit.Hit.{Hit}
use Rattle.doc_words_search.specs.declared.ranking.Scored.{Scored}
use Rattle.doc_words_search.specs.declared.weighing.Weighed.{Weighed}
use Rattle.doc_words_search.specs.Searches.{ranked}
use Rattle.doc_words_search.specs.SearchSteps.{AreInOrder, hit_at, hit_in, hit_placed, key_at, key_in, score_at, scored, scored_among}
use Rattle.doc_words_search.proofs.RankSteps.{before, front_is, sorted_is}

-- by score falling, then by place
abbrev pub scored_cmp : Scored → Scored → Ordering
scored_cmp a b = ordering_then (nat_cmp b.score.0 a.score.0) (nat_cmp a.place b.place)

abbrev pub IsBelow : ℕ → Scored → Type 0
IsBelow n one = one.place < n

-- of pairs in order the first parts don't fall
not_back : (p q : List ℕ × ℕ) → pair_cmp p q ≡ Less → is_lt (slice_cmp nat_cmp q.0 p.0) ≡ false
not_back p q less = ap is_lt (nat_list_cmp_total.antisymm q.0 p.0) ∙ by (slice_cmp nat_cmp p.0 q.0) less
  where
    by : (o : Ordering) → ordering_then o (nat_cmp p.1 q.1) ≡ Less → is_lt (ordering_reverse o) ≡ false
    by Less less = refl
    by Equal less = refl
    by Greater less = absurd cc

not_lower : (a b : ℕ) → is_lt (nat_cmp a b) ≡ false → b ≤ a
not_lower a b e = elim (cases_lt a b) [
  | inl low ↦ let less : nat_cmp a b ≡ Less = rw (lt-ltb a b low) refl in absurd cc
  | inr high ↦ high
]

-- what is found among slots, where the first has this place
abbrev found_from : List Weighed → ℕ → List ℕ → List Scored
found_from words k ns = flat_map (λ one. scored one.0 (score_at words one.1)) (enumerate_from k ns)

module _ {T : Type 0} (slots : List (Option (Held T))) (ns : List ℕ) where
  abbrev path_at : ℕ → List ℕ
  path_at place = (key_at slots (get_or ns place 0)).0

  abbrev hit : Scored → Hit
  hit = hit_placed slots ns

  abbrev AreBelow : List Scored → Type 0
  AreBelow = All (IsBelow (length ns))

  -- a later page has no lower path
  not_fallen : AreInOrder slots ns → (i j : ℕ) → i < j → j < length ns → is_lt (slice_cmp nat_cmp (path_at j) (path_at i)) ≡ false
  not_fallen order i j low high =
      let keys : List (List ℕ × ℕ) = mapped (key_at slots) ns in
      let within : j < length keys = subst (λ n. j < n) (sym (length-map ns (key_at slots))) high in
      let less = Less-from_sorted pair_cmp keys i j (key_at slots 0) order.rise low within in
      not_back (key_at slots (get_or ns i 0)) (key_at slots (get_or ns j 0))
      (ap₂ pair_cmp (sym (get_or-map (key_at slots) ns i 0)) (sym (get_or-map (key_at slots) ns j 0)) ∙ less)

  -- what doesn't come before another by score and place doesn't by score and path
  not_before : AreInOrder slots ns → (a b : Scored) → IsBelow (length ns) a → is_lt (scored_cmp a b) ≡ false
      → before (hit a) (hit b) ≡ false
  not_before order a b low e = by (nat_cmp b.score.0 a.score.0) e
    where
      at : b.place ≤ a.place → is_lt (slice_cmp nat_cmp (path_at a.place) (path_at b.place)) ≡ false
      at le = elim (cases_lt b.place a.place) [
        | inl less ↦ not_fallen order b.place a.place less low
        | inr more ↦
            let same : a.place ≡ b.place = omega (arith, le, more) in
            ap (λ i. is_lt (slice_cmp nat_cmp (path_at a.place) (path_at i))) (sym same)
            ∙ ap is_lt (tied_itself nat_list_cmp_total (path_at a.place))
      ]

      by : (o : Ordering) → is_lt (ordering_then o (nat_cmp a.place b.place)) ≡ false
          → is_lt (ordering_then o (slice_cmp nat_cmp (path_at a.place) (path_at b.place))) ≡ false
      by Less e = e
      by Equal e = at (not_lower a.place b.place e)
      by Greater e = refl

  -- what is sorted by score and place has the hits in their order
  pub sorted_hits : (old new : List Scored) → AreInOrder slots ns → AreBelow old → IsPermutation old new → IsSorted scored_cmp new
      → mapped hit new ≡ ranked (mapped hit old)
  sorted_hits old new order below same sorted =
      let all : AreBelow new = All-permutation (IsBelow (length ns)) old new same below in
      sorted_is hit old new same
      (λ k d low high. not_before order (get_or new (k + 1) d) (get_or new k d) (all (k + 1) d high) (sorted k d low high))

  -- what comes first by score and place are the first hits
  pub first_hits : (old front : List Scored) (x : Scored) (back : List Scored) (n : ℕ) → AreInOrder slots ns → AreBelow old
      → IsPermutation old (front ++ x ∷ back) → length front ≡ n → IsSplitAround scored_cmp front x back
      → ranked (mapped hit front) ≡ take n (ranked (mapped hit old))
  first_hits old front x back n order below same len split =
      let all : AreBelow (front ++ x ∷ back) = All-permutation (IsBelow (length ns)) old (front ++ x ∷ back) same below in
      let behind : AreBelow (x ∷ back)
      = All-same (IsBelow (length ns)) (x ∷ back) (drop (length front) (front ++ x ∷ back)) (sym (drop-append_seam front (x ∷ back)))
      (All-drop (IsBelow (length ns)) (length front) (front ++ x ∷ back) all) in
      front_is hit old front x back n same len
      (λ k d low. not_before order x (get_or front k d) (All-head (IsBelow (length ns)) x back behind) (split.0 k d low))
      (λ k d low. not_before order (get_or back k d) x (All-tail (IsBelow (length ns)) x back behind k d low) (split.1 k d low))

  pub first_below : (old front rest : List Scored) → AreBelow old → IsPermutation old (front ++ rest) → AreBelow front
  first_below old front rest below same =
      All-same (IsBelow (length ns)) front (take (length front) (front ++ rest)) (sym (take-append_seam front rest))
      (All-take (IsBelow (length ns)) (length front) (front ++ rest)
      (All-permutation (IsBelow (length ns)) old (front ++ rest) same below))

  module _ (words : List Weighed) where
    one_hit : (n k : ℕ) → get_or ns k 0 ≡ n → (o : Option (Held T)) → slot_at slots n ≡ o → IsTrue (is_some o) → (s : Option ℕ)
        → mapped hit (scored k s) ≡ hit_in o s
    one_hit n k at None e some s = absurd cc
    one_hit n k at (Some page) e some None = refl
    one_hit n k at (Some page) e some (Some score) =
        ap (λ path. record { path = path; score = score } ∷ []) (ap (λ m. (key_at slots m).0) at ∙ ap (λ o. (key_in o).0) e)

    hits_from : (k : ℕ) (rest : List ℕ) → AllByRecursion (λ n. IsTrue (is_some (slot_at slots n))) rest
        → ((i : ℕ) → i < length rest → get_or ns (k + i) 0 ≡ get_or rest i 0)
        → mapped hit (found_from words k rest) ≡ flat_map (hit_at slots words) rest
    hits_from k [] all at = refl
    hits_from k (n ∷ rest) all at =
        map-append hit (scored k (score_at words n)) (found_from words (k + 1) rest)
        ∙ ap₂ (λ a b. a ++ b)
        (one_hit n k (ap (λ j. get_or ns j 0) (omega arith) ∙ at 0 (omega arith)) (slot_at slots n) refl all.0 (score_at words n))
        (hits_from (k + 1) rest all.1 (λ i low. ap (λ j. get_or ns j 0) (omega arith) ∙ at (suc i) (omega (arith, low))))

    -- the hits of what was found
    pub hits_found : AreInOrder slots ns → mapped hit (scored_among words ns) ≡ flat_map (hit_at slots words) ns
    hits_found order =
        hits_from 0 ns (recursion_from_All (λ n. IsTrue (is_some (slot_at slots n))) ns order.present)
        (λ i low. ap (λ j. get_or ns j 0) (omega arith))

-- what is found is found at places among the slots
below_from : (words : List Weighed) (n k : ℕ) (rest : List ℕ) → k + length rest ≤ n
    → All (IsBelow n) (found_from words k rest)
below_from words n k [] le = All-nil (IsBelow n)
below_from words n k (slot ∷ rest) le =
    All-append (IsBelow n) (scored k (score_at words slot)) _ (at (score_at words slot)) (below_from words n (k + 1) rest (omega arith))
  where
    at : (s : Option ℕ) → All (IsBelow n) (scored k s)
    at None = All-nil (IsBelow n)
    at (Some score) = All-cons (IsBelow n) _ [] (omega arith) (All-nil (IsBelow n))

pub found_below : (words : List Weighed) (ns : List ℕ) → All (IsBelow (length ns)) (scored_among words ns)
found_below words ns = below_from words (length ns) 0 ns (omega arith)

found_more : (words : List Weighed) (k : ℕ) (front : List ℕ) (slot : ℕ)
    → found_from words k (front ++ slot ∷ []) ≡ found_from words k front ++ scored (k + length front) (score_at words slot)
found_more words k [] slot =
    append-nil (scored k (score_at words slot)) ∙ ap (λ j. scored j (score_at words slot)) (omega arith)
found_more words k (n ∷ front) slot =
    ap (λ xs. scored k (score_at words n) ++ xs)
    (found_more words (k + 1) front slot
    ∙ ap (λ j. found_from words (k + 1) front ++ scored j (score_at words slot)) (omega arith))
    ∙ sym (append_assoc (scored k (score_at words n)) _ _)

-- one slot more is looked at
pub found_next : (words : List Weighed) (ns : List ℕ) (i : ℕ) (now new : List Scored) → i < length ns → now ≡ scored_among words (take i ns)
    → new ≡ now ++ scored i (score_at words (get_or ns i 0)) → new ≡ scored_among words (take (i + 1) ns)
found_next words ns i now new low so_far more =
    let len : i ≡ 0 + length (take i ns) = omega (arith, length-take {A = ℕ}) in
    more ∙ ap₂ (λ xs j. xs ++ scored j (score_at words (get_or ns i 0))) so_far len
    ∙ sym (ap (scored_among words) (take_more ns i 0 low) ∙ found_more words 0 (take i ns) (get_or ns i 0))
