-- Counts of words, one word after another.
use Rattle.std.proofs.Common.{◌≡◌, ℕ, ◌+◌, ◌^◌, ◌-◌, min, List, [], ◌∷◌, ◌++◌, Bool, true, false, cond, ◌||◌, refl, ap, ap₂, sym, ◌∙◌, arith}
use Rattle.std.proofs.Common.{◌<◌, append-nil, append_assoc, bytes_eq, count_by, get_or, length, take, unwrap_or, add-zero}
use Rattle.std.specs.Prelude.{Option, Some, None, map as mapped}
use Rattle.std.specs.Cmp.Lexicographic.{slice_cmp}
use Rattle.std.specs.FinMap as map
use Rattle.std.specs.List.{flat_map, list_any}
use Rattle.std.specs.List.Sorted.{IsPermutation}
use Rattle.std.specs.Ordering.{nat_cmp}
use Rattle.std.proofs.lemmas.Cmp.{nat_list_cmp_total}
use Rattle.std.proofs.lemmas.List.{take_more}
use Rattle.std.proofs.lemmas.List.Concat.{flat_map-append}
use Rattle.std.proofs.lemmas.List.Folds.{list_any-append}
use Rattle.std.proofs.lemmas.List.Sorted.{sum_by-IsPermutation, IsPermutation-middle, IsPermutation-to_front}
use Rattle.std.proofs.lemmas.List.Sums.{sum_by_push, sum_by-cons}
use Rattle.std.proofs.lemmas.Map.Lookups.{exact_bytes}
use Rattle.std.proofs.lemmas.Map.Text.{is_eq-slice_cmp}
use Rattle.std.proofs.Math.Bool.{or-false}
use Rattle.doc_index_tables.specs.Maps.{TextMap}
use Rattle.doc_page_parts.proofs.Bools.{clash, or_true, same_bool}
use Rattle.doc_page_parts.proofs.Texts.{bytes_eq_true, bytes_eq_itself}
use Rattle.doc_words_search.specs.Words.{capped, count, counts_of, words_of}
use Rattle.doc_words_search.specs.WordSteps.{counted, one_more}

-- what a list of words has of a word
abbrev word_at : (List ℕ → ℕ) → List (List ℕ) → List ℕ → Option ℕ
word_at f words q = cond (list_any (bytes_eq q) words) (Some (f q)) None

found : (f : List ℕ → ℕ) (words : List (List ℕ)) (q : List ℕ)
    → map.find (slice_cmp nat_cmp) q (mapped (λ w. (w, f w)) words) ≡ word_at f words q
found f [] q = refl
found f (w ∷ words) q =
    ap (λ b. cond b (Some (f w)) (map.find (slice_cmp nat_cmp) q (mapped (λ w. (w, f w)) words))) (is_eq-slice_cmp q w)
    ∙ ap (cond (bytes_eq q w) (Some (f w))) (found f words q)
    ∙ by (bytes_eq q w) refl
  where
    by : (b : Bool) → bytes_eq q w ≡ b → cond b (Some (f w)) (word_at f words q) ≡ cond (b || list_any (bytes_eq q) words) (Some (f q)) None
    by true e = ap (λ v. Some (f v)) (sym (bytes_eq_true q w e))
    by false e = refl

pub at_word : (words : List (List ℕ)) (q : List ℕ) → map.get (counts_of words) q ≡ word_at (count words) words q
at_word words q = map.get-from_entries nat_list_cmp_total (mapped (λ w. (w, count words w)) words) q ∙ found (count words) words q

no_count : (p : List ℕ → Bool) (words : List (List ℕ)) → list_any p words ≡ false → count_by p words ≡ 0
no_count p [] e = refl
no_count p (w ∷ words) e = sum_by-cons (λ x. cond (p x) 1 0) w words ∙ by (p w) (no_count p words) e
  where
    by : (b : Bool) → (list_any p words ≡ false → count_by p words ≡ 0) → (b || list_any p words) ≡ false
        → cond b 1 0 + count_by p words ≡ 0
    by true ih e = absurd (clash true refl e)
    by false ih e = let none : count_by p words ≡ 0 = ih e in omega arith

pub one_past : (last n : ℕ) → min (min n last + 1) last ≡ min (n + 1) last
one_past last n = omega arith

plain : (any : Bool) (n : ℕ) → (any ≡ false → n ≡ 0) → capped (unwrap_or (cond any (Some (capped n)) None) 0 + 1) ≡ capped (n + 1)
plain true n h = one_past (2 ^ 64 - 1) n
plain false n h = ap (λ k. capped (k + 1)) (sym (h refl))

-- one more of a word is the count with that word behind the others
pub counted_word : (words : List (List ℕ)) (w : List ℕ) → one_more (counts_of words) w ≡ counts_of (words ++ w ∷ [])
counted_word words w = map.same_map nat_list_cmp_total exact_bytes (one_more (counts_of words) w) (counts_of (words ++ w ∷ [])) (λ q.
    map.get-insert nat_list_cmp_total (counts_of words) w (capped (unwrap_or (map.get (counts_of words) w) 0 + 1)) q
    ∙ ap (λ b. cond b (Some (capped (unwrap_or (map.get (counts_of words) w) 0 + 1))) (map.get (counts_of words) q)) (is_eq-slice_cmp q w)
    ∙ ap₂ (λ a b. cond (bytes_eq q w) (Some (capped (unwrap_or a 0 + 1))) b) (at_word words w) (at_word words q)
    ∙ by q (bytes_eq q w) refl
    ∙ sym (at_word (words ++ w ∷ []) q))
  where
    pushed : (p : List ℕ → Bool) (b : Bool) → p w ≡ b → count_by p (words ++ w ∷ []) ≡ count_by p words + cond b 1 0
    pushed p b e = sum_by_push (λ x. cond (p x) 1 0) words w ∙ ap (λ a. count_by p words + cond a 1 0) e

    any : (p : List ℕ → Bool) (b : Bool) → p w ≡ b → list_any p (words ++ w ∷ []) ≡ (list_any p words || (b || false))
    any p b e = list_any-append p words (w ∷ []) ∙ ap (λ a. list_any p words || (a || false)) e

    by : (q : List ℕ) (b : Bool) → bytes_eq q w ≡ b
        → cond b (Some (capped (unwrap_or (word_at (count words) words w) 0 + 1))) (word_at (count words) words q)
        ≡ word_at (count (words ++ w ∷ [])) (words ++ w ∷ []) q
    by q true e =
        ap Some (plain (list_any (bytes_eq w) words) (count_by (bytes_eq w) words) (no_count (bytes_eq w) words)
        ∙ ap capped (sym (pushed (bytes_eq w) true (bytes_eq_itself w))))
        ∙ ap (λ b. cond b (Some (count (words ++ w ∷ []) w)) None)
        (sym (any (bytes_eq w) true (bytes_eq_itself w) ∙ or_true (list_any (bytes_eq w) words)))
        ∙ ap (word_at (count (words ++ w ∷ [])) (words ++ w ∷ [])) (sym (bytes_eq_true q w e))
    by q false e =
        sym (ap₂ (λ b n. cond b (Some (capped n)) None)
        (any (bytes_eq q) false e ∙ or-false (list_any (bytes_eq q) words))
        (pushed (bytes_eq q) false e ∙ add-zero (count_by (bytes_eq q) words)))

counted_behind : (words more : List (List ℕ)) → counted (counts_of words) more ≡ counts_of (words ++ more)
counted_behind words [] = ap counts_of (sym (append-nil words))
counted_behind words (w ∷ more) =
    ap (λ m. counted m more) (counted_word words w) ∙ counted_behind (words ++ w ∷ []) more
    ∙ ap counts_of (append_assoc words (w ∷ []) more)

pub counted_all : (words : List (List ℕ)) → counted map.empty words ≡ counts_of words
counted_all words = counted_behind [] words

pub counted_append : (counts : TextMap ℕ) (words more : List (List ℕ))
    → counted counts (words ++ more) ≡ counted (counted counts words) more
counted_append counts [] more = refl
counted_append counts (w ∷ words) more = counted_append (one_more counts w) words more

-- one text more
pub text_more : (counts new : TextMap ℕ) (texts : List (List ℕ)) (i : ℕ) (text : List ℕ) → i < length texts → text ≡ get_or texts i text
    → counts ≡ counted map.empty (flat_map words_of (take i texts)) → new ≡ counted counts (words_of text)
    → new ≡ counted map.empty (flat_map words_of (take (i + 1) texts))
text_more counts new texts i text low is so_far more =
    let next : take (i + 1) texts ≡ take i texts ++ text ∷ [] = take_more texts i text low ∙ ap (λ t. take i texts ++ t ∷ []) (sym is) in
    more ∙ ap (λ m. counted m (words_of text)) so_far
    ∙ sym (counted_append map.empty (flat_map words_of (take i texts)) (words_of text))
    ∙ ap (λ ws. counted map.empty (flat_map words_of (take i texts) ++ ws)) (sym (append-nil (words_of text)))
    ∙ ap (counted map.empty) (sym (ap (flat_map words_of) next ∙ flat_map-append words_of (take i texts) (text ∷ [])))

-- words have the same counts in any order
pub same_counts : (words more : List (List ℕ)) → IsPermutation words more → counts_of words ≡ counts_of more
same_counts words more moved = map.same_map nat_list_cmp_total exact_bytes (counts_of words) (counts_of more) (λ q.
    at_word words q
    ∙ ap₂ (λ b n. cond b (Some (capped n)) None) (same_bool (list_any (bytes_eq q) words) (list_any (bytes_eq q) more)
    (λ e. stands (bytes_eq q) words more e (same q)) (λ e. stands (bytes_eq q) more words e (sym (same q)))) (same q)
    ∙ sym (at_word more q))
  where
    same : (q : List ℕ) → count_by (bytes_eq q) words ≡ count_by (bytes_eq q) more
    same q = sym (sum_by-IsPermutation (λ x. cond (bytes_eq q x) 1 0) words more moved)

    some_count : (p : List ℕ → Bool) (ws : List (List ℕ)) → list_any p ws ≡ true → count_by p ws ≡ 0 → ⊥
    some_count p [] e none = clash false e refl
    some_count p (w ∷ ws) e none = by (p w) e (sym (sum_by-cons (λ x. cond (p x) 1 0) w ws) ∙ none) (some_count p ws)
      where
        by : (b : Bool) → (b || list_any p ws) ≡ true → cond b 1 0 + count_by p ws ≡ 0
            → (list_any p ws ≡ true → count_by p ws ≡ 0 → ⊥) → ⊥
        by true h n ih = absurd (omega (arith, n))
        by false h n ih = ih h (omega (arith, n))

    stands : (p : List ℕ → Bool) (xs ys : List (List ℕ)) → list_any p xs ≡ true → count_by p xs ≡ count_by p ys → list_any p ys ≡ true
    stands p xs ys e n = by (list_any p ys) refl
      where
        by : (b : Bool) → list_any p ys ≡ b → b ≡ true
        by true h = refl
        by false h = absurd (some_count p xs e (n ∙ no_count p ys h))

-- a word before others counts as one behind them
pub counted_front : (word : List ℕ) (words : List (List ℕ)) → counts_of (word ∷ words) ≡ one_more (counts_of words) word
counted_front word words =
    sym (same_counts (words ++ word ∷ []) (word ∷ words) (IsPermutation-to_front words word)) ∙ sym (counted_word words word)

-- so does one between them
pub counted_between : (words : List (List ℕ)) (word : List ℕ) (more : List (List ℕ))
    → counts_of ((words ++ word ∷ []) ++ more) ≡ one_more (counts_of (words ++ more)) word
counted_between words word more =
    ap counts_of (append_assoc words (word ∷ []) more)
    ∙ same_counts (words ++ word ∷ more) (word ∷ (words ++ more)) (IsPermutation-middle words word more)
    ∙ counted_front word (words ++ more)

pub counted_last : (words more : List (List ℕ)) (word : List ℕ)
    → counts_of (words ++ (more ++ word ∷ [])) ≡ one_more (counts_of (words ++ more)) word
counted_last words more word = ap counts_of (sym (append_assoc words more (word ∷ []))) ∙ sym (counted_word (words ++ more) word)
