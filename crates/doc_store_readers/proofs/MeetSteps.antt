-- Steps of the search for a common name in two lists of different names, both in the order of bytes.
use Rattle.std.proofs.Common.{◌≡◌, ℕ, List, [], ◌∷◌, true, false, ◌||◌, bytes_eq, length, Less, Equal, Greater, refl, sym, ap, ◌∙◌, subst}
use Rattle.std.proofs.Common.{arith}
use Rattle.std.specs.Cmp.Lexicographic.{slice_cmp}
use Rattle.std.specs.List.{list_any}
use Rattle.std.specs.List.Sorted.{IsStrictlySortedBy}
use Rattle.std.specs.Ordering.{nat_cmp, is_eq, ordering_reverse}
use Rattle.std.proofs.lemmas.Cmp.{nat_list_cmp_total}
use Rattle.std.proofs.lemmas.Map.Keys.{sorted_tail}
use Rattle.std.proofs.lemmas.Map.Text.{is_eq-slice_cmp}
use Rattle.doc_store_readers.specs.Groups.{meet}
use Rattle.doc_store_readers.proofs.SortedSteps.{IsBelow, turned, below_more}

-- a name below another is not the same
above_differs : (a b : List ℕ) → slice_cmp nat_cmp a b ≡ Less → bytes_eq b a ≡ false
above_differs a b less = sym (is_eq-slice_cmp b a) ∙ ap is_eq (nat_list_cmp_total.antisymm b a ∙ ap ordering_reverse less)

below_differs : (a b : List ℕ) → slice_cmp nat_cmp a b ≡ Less → bytes_eq a b ≡ false
below_differs a b less = sym (is_eq-slice_cmp a b) ∙ ap is_eq less

-- a name below all others is none of them
none_of : (a : List ℕ) (names : List (List ℕ)) → IsBelow a names → list_any (λ other. bytes_eq other a) names ≡ false
none_of a [] below = refl
none_of a (name ∷ names) below = rw (above_differs a name below.0) (none_of a names below.1)

-- a name of theirs below all of ours is not needed
not_needed : (b : List ℕ) (ours theirs : List (List ℕ)) → IsBelow b ours → meet ours (b ∷ theirs) ≡ meet ours theirs
not_needed b [] theirs below = refl
not_needed b (our ∷ ours) theirs below = λ i. (below_differs b our below.0 i || list_any (λ other. bytes_eq other our) theirs) ||
    not_needed b ours theirs below.1 i

pub meet_no_names : (ours theirs : List (List ℕ)) → length theirs ≡ 0 → false ≡ meet ours theirs
meet_no_names [] [] none = refl
meet_no_names (our ∷ ours) [] none = meet_no_names ours [] none
meet_no_names ours (their ∷ theirs) none = absurd (omega arith)

-- the first names of both, compared
pub our_first_passes : (a b : List ℕ) (ours theirs : List (List ℕ)) → IsStrictlySortedBy (slice_cmp nat_cmp) (b ∷ theirs)
    → slice_cmp nat_cmp a b ≡ Less → meet (a ∷ ours) (b ∷ theirs) ≡ meet ours (b ∷ theirs)
unfolding IsStrictlySortedBy
our_first_passes a b ours theirs sorted less =
    ap (λ found. found || meet ours (b ∷ theirs)) (none_of a (b ∷ theirs) (less, below_more a b theirs less sorted.0))

pub their_first_passes : (a b : List ℕ) (ours theirs : List (List ℕ)) → IsStrictlySortedBy (slice_cmp nat_cmp) (a ∷ ours)
    → slice_cmp nat_cmp a b ≡ Greater → meet (a ∷ ours) (b ∷ theirs) ≡ meet (a ∷ ours) theirs
unfolding IsStrictlySortedBy
their_first_passes a b ours theirs sorted more =
    let less : slice_cmp nat_cmp b a ≡ Less = turned a b more in
    not_needed b (a ∷ ours) theirs (less, below_more b a ours less sorted.0)

pub firsts_meet : (a b : List ℕ) (ours theirs : List (List ℕ)) → slice_cmp nat_cmp a b ≡ Equal → meet (a ∷ ours) (b ∷ theirs) ≡ true
firsts_meet a b ours theirs same =
    let here : bytes_eq b a ≡ true = sym (is_eq-slice_cmp b a) ∙ ap is_eq (nat_list_cmp_total.antisymm b a ∙ ap ordering_reverse same) in
    rw here refl

-- ---- the same of lists that are seen to have first names

module _ (ours theirs our_rest their_rest : List (List ℕ)) (a b : List ℕ) (our_first : ours ≡ a ∷ our_rest)
    (their_first : theirs ≡ b ∷ their_rest) where
  pub we_pass : IsStrictlySortedBy (slice_cmp nat_cmp) theirs → slice_cmp nat_cmp a b ≡ Less → meet ours theirs ≡ meet our_rest theirs
  we_pass sorted less =
      (λ i. meet (our_first i) (their_first i))
      ∙ our_first_passes a b our_rest their_rest (subst (IsStrictlySortedBy (slice_cmp nat_cmp)) their_first sorted) less
      ∙ ap (meet our_rest) (sym their_first)

  pub they_pass : IsStrictlySortedBy (slice_cmp nat_cmp) ours → slice_cmp nat_cmp a b ≡ Greater → meet ours theirs ≡ meet ours their_rest
  they_pass sorted more =
      (λ i. meet (our_first i) (their_first i))
      ∙ their_first_passes a b our_rest their_rest (subst (IsStrictlySortedBy (slice_cmp nat_cmp)) our_first sorted) more
      ∙ ap (λ names. meet names their_rest) (sym our_first)

  pub both_meet : slice_cmp nat_cmp a b ≡ Equal → meet ours theirs ≡ true
  both_meet same = (λ i. meet (our_first i) (their_first i)) ∙ firsts_meet a b our_rest their_rest same

pub rest_is_sorted : (names rest : List (List ℕ)) (first : List ℕ) → names ≡ first ∷ rest → IsStrictlySortedBy (slice_cmp nat_cmp) names
    → IsStrictlySortedBy (slice_cmp nat_cmp) rest
rest_is_sorted names rest first is sorted = sorted_tail (slice_cmp nat_cmp) first rest
    (subst (IsStrictlySortedBy (slice_cmp nat_cmp)) is sorted)
