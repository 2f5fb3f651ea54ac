-- Laws of how many words of a page a term meets.
use Rattle.std.proofs.Common.{◌≡◌, ℕ, ◌+◌, ◌-◌, ◌^◌, min, List, [], ◌∷◌, Bool, true, false, cond, ◌||◌, refl, ap, sym, subst, ◌∙◌, arith}
use Rattle.std.specs.Prelude.{Some, None, bytes_eq, count_by, is_some, map as mapped, sum_by}
use Rattle.std.specs.Cmp.Lexicographic.{slice_cmp}
use Rattle.std.specs.FinMap as map
use Rattle.std.specs.FinMap.Entries.{by_order}
use Rattle.std.specs.List.{AllByRecursion, list_any}
use Rattle.std.specs.List.Sorted.{IsStrictlySortedBy}
use Rattle.std.specs.Ordering.{is_eq, nat_cmp, ordering_reverse}
use Rattle.std.specs.declared.cmp.Ordering.{Ordering}
use Rattle.std.specs.declared.cmp.Ordering.TheVariants.{Less, Equal, Greater}
use Rattle.std.proofs.lemmas.Bool.{cond_both, false_from_ne_true, or_left, or_right, true≢false}
use Rattle.std.proofs.lemmas.Cmp.{nat_list_cmp_total}
use Rattle.std.proofs.lemmas.List.Sums.{sum_by-cons}
use Rattle.std.proofs.lemmas.Map.Lookups.{exact_bytes}
use Rattle.std.proofs.lemmas.Map.Text.{is_eq-slice_cmp}
use Rattle.doc_page_parts.proofs.Texts.{bytes_eq_itself, bytes_eq_true}
use Rattle.doc_store_readers.proofs.FilterSteps.{keys_in_order}
use Rattle.doc_words_search.proofs.CountSteps.{at_word}
use Rattle.doc_words_search.specs.Words.{capped, count, counts_of, page_words}
use Rattle.doc_people.proofs.KeyLaws.{cmp, not_greater}
use Rattle.doc_people.proofs.QuerySteps.{entries_are, puts}
use Rattle.doc_people.specs.Laws.{CountsAreSums}
use Rattle.doc_people.specs.Terms.{meets}

-- ---- one word among different ones

-- one, where the key passes and is the word
abbrev hit : (List ℕ → Bool) → List ℕ → List ℕ → ℕ
hit p w k = cond (p k) (cond (bytes_eq k w) 1 0) 0

isnt_less : (k : List ℕ) → cmp k k ≡ Less → ⊥
isnt_less k less = not_greater (sym (ap ordering_reverse less) ∙ sym (nat_list_cmp_total.antisymm k k) ∙ less)

differ : (w k : List ℕ) → bytes_eq w k ≡ false → bytes_eq k w ≡ false
differ w k e =
    false_from_ne_true (bytes_eq k w) (λ same. true≢false (sym (bytes_eq_itself w) ∙ ap (bytes_eq w) (sym (bytes_eq_true k w same)) ∙ e))

miss : (p : List ℕ → Bool) (w k : List ℕ) → bytes_eq k w ≡ false → hit p w k ≡ 0
miss p w k e = ap (λ b. cond (p k) (cond b 1 0) 0) e ∙ cond_both (p k) 0 0 (λ n. n ≡ 0) (λ _. refl) (λ _. refl)

module _ (p : List ℕ → Bool) (w : List ℕ) where
  none_behind : (ks : List (List ℕ)) → AllByRecursion (λ k. cmp w k ≡ Less) ks → sum_by (hit p w) ks ≡ 0
  none_behind [] behind = refl
  none_behind (k ∷ ks) behind =
      let isnt : bytes_eq k w ≡ false
      = false_from_ne_true (bytes_eq k w) (λ same. isnt_less w (subst (λ z. cmp w z ≡ Less) (bytes_eq_true k w same) behind.0)) in
      let first = miss p w k isnt in
      let rest = none_behind ks behind.1 in
      sum_by-cons (hit p w) k ks ∙ omega (arith, first, rest)

  at_itself : hit p w w ≡ cond (p w) 1 0
  at_itself = ap (λ b. cond (p w) (cond b 1 0) 0) (bytes_eq_itself w)

  once_at : (k : List ℕ) (ks : List (List ℕ)) → AllByRecursion (λ y. cmp k y ≡ Less) ks
      → (list_any (bytes_eq w) ks ≡ true → sum_by (hit p w) ks ≡ cond (p w) 1 0)
      → (b : Bool) → bytes_eq w k ≡ b → (b || list_any (bytes_eq w) ks) ≡ true → sum_by (hit p w) (k ∷ ks) ≡ cond (p w) 1 0
  once_at k ks behind more true e has =
      let same = bytes_eq_true w k e in
      let first : hit p w k ≡ cond (p w) 1 0 = ap (hit p w) (sym same) ∙ at_itself in
      let rest = none_behind ks (subst (λ z. AllByRecursion (λ y. cmp z y ≡ Less) ks) (sym same) behind) in
      sum_by-cons (hit p w) k ks ∙ omega (arith, first, rest)
  once_at k ks behind more false e has =
      let first = miss p w k (differ w k e) in
      let rest = more has in
      sum_by-cons (hit p w) k ks ∙ omega (arith, first, rest)

  once : (ks : List (List ℕ)) → IsStrictlySortedBy cmp ks → list_any (bytes_eq w) ks ≡ true → sum_by (hit p w) ks ≡ cond (p w) 1 0
  unfolding IsStrictlySortedBy
  once [] sorted has = absurd (true≢false (sym has))
  once (k ∷ ks) sorted has = once_at k ks sorted.0 (once ks sorted.1) (bytes_eq w k) refl has

-- ---- all words among different ones

module _ (p : List ℕ → Bool) where
  -- how often a key stands among words, where it passes
  abbrev times : List (List ℕ) → List ℕ → ℕ
  times words k = cond (p k) (count_by (bytes_eq k) words) 0

  one_key : (w : List ℕ) (words : List (List ℕ)) (k : List ℕ) (b : Bool)
      → cond b (count_by (bytes_eq k) (w ∷ words)) 0 ≡ cond b (cond (bytes_eq k w) 1 0) 0 + cond b (count_by (bytes_eq k) words) 0
  one_key w words k true = sum_by-cons (λ x. cond (bytes_eq k x) 1 0) w words
  one_key w words k false = refl

  one_word : (w : List ℕ) (words ks : List (List ℕ)) → sum_by (times (w ∷ words)) ks ≡ sum_by (hit p w) ks + sum_by (times words) ks
  one_word w words [] = refl
  one_word w words (k ∷ ks) =
      let first = one_key w words k (p k) in
      let rest = one_word w words ks in
      let left = sum_by-cons (times (w ∷ words)) k ks in
      let hits = sum_by-cons (hit p w) k ks in
      let right = sum_by-cons (times words) k ks in
      omega (arith, first, rest, left, hits, right)

  no_words : (ks : List (List ℕ)) → sum_by (times []) ks ≡ 0
  no_words [] = refl
  no_words (k ∷ ks) =
      let first : times [] k ≡ 0 = cond_both (p k) 0 0 (λ n. n ≡ 0) (λ _. refl) (λ _. refl) in
      let rest = no_words ks in
      sum_by-cons (times []) k ks ∙ omega (arith, first, rest)

  each_word : (ks : List (List ℕ)) → IsStrictlySortedBy cmp ks → (words : List (List ℕ))
      → AllByRecursion (λ w. list_any (bytes_eq w) ks ≡ true) words → sum_by (times words) ks ≡ count_by p words
  each_word ks sorted [] all = no_words ks
  each_word ks sorted (w ∷ words) all =
      let first = once p w ks sorted all.0 in
      let rest = each_word ks sorted words all.1 in
      let right = sum_by-cons (λ x. cond (p x) 1 0) w words in
      one_word w words ks ∙ omega (arith, first, rest, right)

-- ---- sums of numbers that are capped

abbrev most : ℕ
most = 2 ^ 64 - 1

cap_first : (m a b s t : ℕ) → min s m ≡ min t m → a ≡ min b m → min (a + s) m ≡ min (b + t) m
cap_first m a b s t rest first = omega (arith, rest, first)

-- ---- the counts of the words of a page

-- each entry has the count of its key
abbrev AreCounts : List (List ℕ) → List (List ℕ × ℕ) → Type 0
AreCounts words es = AllByRecursion (λ e. e.1 ≡ count words e.0) es

module _ (words : List (List ℕ)) where
  put_at : (k : List ℕ) (e : List ℕ × ℕ) (es : List (List ℕ × ℕ)) → AreCounts words (e ∷ es)
      → AreCounts words (map.put cmp k (count words k) es) → (o : Ordering) → cmp k e.0 ≡ o
      → AreCounts words (by_order o ((k, count words k) ∷ e ∷ es) ((e.0, count words k) ∷ es) (e ∷ map.put cmp k (count words k) es))
  put_at k e es all more Less is = (refl, all)
  put_at k e es all more Equal is = (ap (count words) (exact_bytes k e.0 is), all.1)
  put_at k e es all more Greater is = (all.0, more)

  put_counts : (k : List ℕ) (es : List (List ℕ × ℕ)) → AreCounts words es → AreCounts words (map.put cmp k (count words k) es)
  put_counts k [] all = (refl, tt)
  put_counts k (e ∷ es) all = put_at k e es all (put_counts k es all.1) (cmp k e.0) refl

  puts_counts : (some : List (List ℕ)) → AreCounts words (puts (mapped (λ w. (w, count words w)) some))
  puts_counts [] = tt
  puts_counts (w ∷ some) = put_counts w (puts (mapped (λ v. (v, count words v)) some)) (puts_counts some)

  are_counts : AreCounts words (map.entries (counts_of words))
  are_counts = subst (AreCounts words) (sym (entries_are (mapped (λ w. (w, count words w)) words))) (puts_counts words)

  -- each word is the key of one
  is_key : (w : List ℕ) → list_any (bytes_eq w) words ≡ true → list_any (bytes_eq w) (map.keys (counts_of words)) ≡ true
  is_key w has =
      let tests : (λ (k : List ℕ). is_eq (slice_cmp nat_cmp w k)) ≡ bytes_eq w = λ i k. is_eq-slice_cmp w k i in
      sym (ap (λ same. list_any same (map.keys (counts_of words))) tests) ∙ sym (map.contains_key-keys (counts_of words) w)
      ∙ ap is_some (at_word words w) ∙ ap (λ b. is_some (cond b (Some (count words w)) None)) has

  are_keys : (some : List (List ℕ)) → ((w : List ℕ) → list_any (bytes_eq w) some ≡ true → list_any (bytes_eq w) words ≡ true)
      → AllByRecursion (λ w. list_any (bytes_eq w) (map.keys (counts_of words)) ≡ true) some
  are_keys [] among = tt
  are_keys (w ∷ some) among = (
    is_key w (among w (or_left (bytes_eq w w) (list_any (bytes_eq w) some) (bytes_eq_itself w))),
    are_keys some (λ v has. among v (or_right (bytes_eq v w) (list_any (bytes_eq v) some) has)),
  )

  module _ (p : List ℕ → Bool) where
    one_entry : (k : List ℕ) (n : ℕ) (b : Bool) → n ≡ count words k → cond b n 0 ≡ min (cond b (count_by (bytes_eq k) words) 0) most
    one_entry k n true e = e
    one_entry k n false e = refl

    entries_sum : (es : List (List ℕ × ℕ)) → AreCounts words es
        → min (sum_by (λ e. cond (p e.0) e.1 0) es) most ≡ min (sum_by (times p words) (mapped (λ e. e.0) es)) most
    entries_sum [] all = refl
    entries_sum (e ∷ es) all =
        let left = sum_by-cons (λ f. cond (p f.0) f.1 0) e es in
        let right = sum_by-cons (times p words) e.0 (mapped (λ f. f.0) es) in
        ap (λ n. min n most) left
        ∙ cap_first most (cond (p e.0) e.1 0) (times p words e.0) (sum_by (λ f. cond (p f.0) f.1 0) es)
        (sum_by (times p words) (mapped (λ f. f.0) es)) (entries_sum es all.1) (one_entry e.0 e.1 (p e.0) all.0)
        ∙ ap (λ n. min n most) (sym right)

    all_sum : capped (count_by p words) ≡ capped (sum_by (λ e. cond (p e.0) e.1 0) (map.entries (counts_of words)))
    all_sum =
        let sorted = keys_in_order (slice_cmp nat_cmp) (map.entries (counts_of words)) (map.entries_sorted (counts_of words)) in
        sym (entries_sum (map.entries (counts_of words)) are_counts
        ∙ ap capped (each_word p (map.keys (counts_of words)) sorted words (are_keys words (λ w has. has))))

pub counts_are_sums : CountsAreSums
counts_are_sums page term = all_sum (page_words page) (meets term)
