-- The numbers of all texts, one after another, in the order of their texts and numbers.
use Rattle.std.proofs.Common.{◌≡◌, ℕ, List, [], ◌∷◌, ◌++◌, Bool, true, false, cond, ◌&&◌, refl, ap, sym, ◌∙◌}
use Rattle.std.specs.Prelude.{Option, Some, None, map as mapped}
use Rattle.std.specs.declared.cmp.Ordering.TheVariants.{Less}
use Rattle.std.specs.Cmp.Lexicographic.{slice_cmp}
use Rattle.std.specs.FinMap as map
use Rattle.std.specs.List.{AllByRecursion}
use Rattle.std.specs.List.Sorted.{IsStrictlySortedBy}
use Rattle.std.specs.Map.{keys_of}
use Rattle.std.specs.Ordering.{nat_cmp, ordering_then}
use Rattle.std.proofs.lemmas.Cmp.{nat_cmp_total, nat_list_cmp_total, tied_itself}
use Rattle.doc_index_tables.specs.Maps.{NumberMap, pair_cmp}
use Rattle.doc_index_tables.specs.TableSteps.{NumberTable, number_at, number_in, numbers_of, same_number, same_text}
use Rattle.doc_index_tables.proofs.EntrySteps.{each_found}
use Rattle.doc_index_tables.proofs.PairSteps.{both_same}
use Rattle.doc_index_tables.proofs.TableSteps.{same_text as text_is}
use Rattle.doc_page_parts.proofs.Maps.{is_sorted_keys, find_before}

-- the numbers of one text, and those of all
abbrev pub tagged : List ℕ → List (ℕ × ℕ) → List ((List ℕ × ℕ) × ℕ)
tagged t [] = []
tagged t (x ∷ xs) = ((t, x.0), x.1) ∷ tagged t xs

abbrev pub flat : List (List ℕ × NumberMap ℕ) → List ((List ℕ × ℕ) × ℕ)
flat [] = []
flat (e ∷ es) = tagged e.0 (map.entries e.1) ++ flat es

abbrev IsBefore : List ℕ × ℕ → List ((List ℕ × ℕ) × ℕ) → Type 0
IsBefore p es = AllByRecursion (λ y. pair_cmp p y ≡ Less) (keys_of es)

before_tagged : (t s : List ℕ) (n : ℕ) → slice_cmp nat_cmp t s ≡ Less → (xs : List (ℕ × ℕ)) (rest : List ((List ℕ × ℕ) × ℕ))
    → IsBefore (t, n) rest → IsBefore (t, n) (tagged s xs ++ rest)
before_tagged t s n less [] rest before = before
before_tagged t s n less (x ∷ xs) rest before =
    (ap (λ o. ordering_then o (nat_cmp n x.0)) less, before_tagged t s n less xs rest before)

before_flat : (t : List ℕ) (n : ℕ) (es : List (List ℕ × NumberMap ℕ)) → AllByRecursion (λ y. slice_cmp nat_cmp t y ≡ Less) (keys_of es)
    → IsBefore (t, n) (flat es)
before_flat t n [] before = tt
before_flat t n (e ∷ es) before = before_tagged t e.0 n before.0 (map.entries e.1) (flat es) (before_flat t n es before.1)

before_same : (t : List ℕ) (n : ℕ) (xs : List (ℕ × ℕ)) (rest : List ((List ℕ × ℕ) × ℕ))
    → AllByRecursion (λ y. nat_cmp n y ≡ Less) (keys_of xs) → IsBefore (t, n) rest → IsBefore (t, n) (tagged t xs ++ rest)
before_same t n [] rest less before = before
before_same t n (x ∷ xs) rest less before =
    (ap (λ o. ordering_then o (nat_cmp n x.0)) (tied_itself nat_list_cmp_total t) ∙ less.0, before_same t n xs rest less.1 before)

sorted_tagged : (t : List ℕ) (xs : List (ℕ × ℕ)) (es : List (List ℕ × NumberMap ℕ)) → IsStrictlySortedBy nat_cmp (keys_of xs)
    → AllByRecursion (λ y. slice_cmp nat_cmp t y ≡ Less) (keys_of es) → IsStrictlySortedBy pair_cmp (keys_of (flat es))
    → IsStrictlySortedBy pair_cmp (keys_of (tagged t xs ++ flat es))
unfolding IsStrictlySortedBy
sorted_tagged t [] es sorted before rest = rest
sorted_tagged t (x ∷ xs) es sorted before rest =
    (before_same t x.0 xs (flat es) sorted.0 (before_flat t x.0 es before), sorted_tagged t xs es sorted.1 before rest)

pub sorted_flat : (es : List (List ℕ × NumberMap ℕ)) → IsStrictlySortedBy (slice_cmp nat_cmp) (keys_of es)
    → IsStrictlySortedBy pair_cmp (keys_of (flat es))
unfolding IsStrictlySortedBy
sorted_flat [] sorted = tt
sorted_flat (e ∷ es) sorted =
    sorted_tagged e.0 (map.entries e.1) es (is_sorted_keys nat_cmp (map.entries e.1) (map.entries_sorted e.1)) sorted.0
    (sorted_flat es sorted.1)

abbrev pub found : List ℕ × ℕ → List ((List ℕ × ℕ) × ℕ) → Option ℕ
found q es = map.find pair_cmp q es

found_other : (q : List ℕ × ℕ) (s : List ℕ) → same_text q.0 s ≡ false → (xs : List (ℕ × ℕ)) (rest : List ((List ℕ × ℕ) × ℕ))
    → found q (tagged s xs ++ rest) ≡ found q rest
found_other q s e [] rest = refl
found_other q s e (x ∷ xs) rest =
    ap (λ b. cond b (Some x.1) (found q (tagged s xs ++ rest))) (both_same q (s, x.0) ∙ ap (λ b. b && same_number q.1 x.0) e)
    ∙ found_other q s e xs rest

found_same : (q : List ℕ × ℕ) (s : List ℕ) → same_text q.0 s ≡ true → (xs : List (ℕ × ℕ)) (rest : List ((List ℕ × ℕ) × ℕ))
    → found q rest ≡ None → found q (tagged s xs ++ rest) ≡ map.find nat_cmp q.1 xs
found_same q s e [] rest none = none
found_same q s e (x ∷ xs) rest none =
    ap (λ b. cond b (Some x.1) (found q (tagged s xs ++ rest))) (both_same q (s, x.0) ∙ ap (λ b. b && same_number q.1 x.0) e)
    ∙ ap (cond (same_number q.1 x.0) (Some x.1)) (found_same q s e xs rest none)

pub found_flat : (q : List ℕ × ℕ) (es : List (List ℕ × NumberMap ℕ)) → IsStrictlySortedBy (slice_cmp nat_cmp) (keys_of es)
    → found q (flat es) ≡ number_in (map.find (slice_cmp nat_cmp) q.0 es) q.1
unfolding IsStrictlySortedBy
found_flat q [] sorted = refl
found_flat q (e ∷ es) sorted = by (same_text q.0 e.0) refl sorted.0 (found_flat q es sorted.1)
  where
    by : (b : Bool) → same_text q.0 e.0 ≡ b → AllByRecursion (λ y. slice_cmp nat_cmp e.0 y ≡ Less) (keys_of es)
        → found q (flat es) ≡ number_in (map.find (slice_cmp nat_cmp) q.0 es) q.1
        → found q (tagged e.0 (map.entries e.1) ++ flat es)
        ≡ number_in (cond b (Some e.1) (map.find (slice_cmp nat_cmp) q.0 es)) q.1
    by true same before rest =
        found_same q e.0 same (map.entries e.1) (flat es)
        (rest ∙ ap (λ r. number_in r q.1) (ap (λ k. map.find (slice_cmp nat_cmp) k es) (text_is q.0 e.0 same)
        ∙ find_before (slice_cmp nat_cmp) e.0 es before))
        ∙ sym (map.get-entries e.1 q.1)
    by false same before rest = found_other q e.0 same (map.entries e.1) (flat es) ∙ rest

numbers_tagged : (t : List ℕ) (xs : List (ℕ × ℕ)) (rest : List ((List ℕ × ℕ) × ℕ))
    → mapped (λ x. x.1) (tagged t xs ++ rest) ≡ mapped (λ x. x.1) xs ++ mapped (λ x. x.1) rest
numbers_tagged t [] rest = refl
numbers_tagged t (x ∷ xs) rest = ap (λ ys. x.1 ∷ ys) (numbers_tagged t xs rest)

pub numbers_flat : (es : List (List ℕ × NumberMap ℕ)) → numbers_of (mapped (λ e. e.1) es) ≡ mapped (λ x. x.1) (flat es)
numbers_flat [] = refl
numbers_flat (e ∷ es) =
    ap (λ ys. mapped (λ x. x.1) (map.entries e.1) ++ ys) (numbers_flat es) ∙ sym (numbers_tagged e.0 (map.entries e.1) (flat es))

module _ (places : NumberTable) where
  all_tagged : (t : List ℕ) (row : NumberMap ℕ) → map.get places t ≡ Some row → (xs : List (ℕ × ℕ))
      → AllByRecursion (λ x. map.find nat_cmp x.0 (map.entries row) ≡ Some x.1) xs → (rest : List ((List ℕ × ℕ) × ℕ))
      → AllByRecursion (λ x. number_at places x.0.0 x.0.1 ≡ Some x.1) rest
      → AllByRecursion (λ x. number_at places x.0.0 x.0.1 ≡ Some x.1) (tagged t xs ++ rest)
  all_tagged t row stands [] got rest all = all
  all_tagged t row stands (x ∷ xs) got rest all =
      (ap (λ r. number_in r x.0) stands ∙ map.get-entries row x.0 ∙ got.0, all_tagged t row stands xs got.1 rest all)

  pub all_flat : (es : List (List ℕ × NumberMap ℕ))
      → AllByRecursion (λ e. map.find (slice_cmp nat_cmp) e.0 (map.entries places) ≡ Some e.1) es
      → AllByRecursion (λ x. number_at places x.0.0 x.0.1 ≡ Some x.1) (flat es)
  all_flat [] got = tt
  all_flat (e ∷ es) got =
      all_tagged e.0 e.1 (map.get-entries places e.0 ∙ got.0) (map.entries e.1)
      (each_found nat_cmp nat_cmp_total (map.entries e.1) (is_sorted_keys nat_cmp (map.entries e.1) (map.entries_sorted e.1)))
      (flat es) (all_flat es got.1)
