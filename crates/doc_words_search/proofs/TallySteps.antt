-- Sorted words, counted by runs of the same.
use Rattle.std.proofs.Common.{◌≡◌, ℕ, zero, suc, ◌+◌, ◌^◌, ◌-◌, ◌<◌, ◌≤◌, List, [], ◌∷◌, ◌++◌, Bool, true, false, cond, ◌||◌, refl, ap, ap₂, sym, subst, ◌∙◌, arith}
use Rattle.std.proofs.Common.{append-nil, append_assoc, bytes_eq, drop, get_or, length, length-drop, take, unwrap_or, Less, Equal, Greater, Ordering, is_eq, is_lt, nat_cmp, zero-le}
use Rattle.std.specs.Bool.{⊤}
use Rattle.std.specs.Prelude.{Some, None, is_some}
use Rattle.std.specs.Cmp.Lexicographic.{slice_cmp}
use Rattle.std.specs.FinMap as map
use Rattle.std.specs.List.{AllByRecursion, list_any, prefix_len}
use Rattle.std.specs.List.Sorted.{IsSorted}
use Rattle.std.specs.Ordering.{eq_by_cmp, ordering_reverse}
use Rattle.std.proofs.lemmas.Cmp.{nat_list_cmp_total, tied_itself}
use Rattle.std.proofs.lemmas.List.{drop-drop, drop_all, drop_more, take_rest}
use Rattle.std.proofs.lemmas.List.Sorted.{ranks_by, sorted_far}
use Rattle.std.proofs.lemmas.Map.Lookups.{exact_bytes}
use Rattle.std.proofs.lemmas.Map.Text.{is_eq-slice_cmp}
use Rattle.doc_index_tables.specs.Maps.{TextMap}
use Rattle.doc_page_parts.proofs.Bools.{clash}
use Rattle.doc_page_parts.proofs.Maps.{entries_in_order, is_sorted_keys}
use Rattle.doc_page_parts.proofs.Texts.{bytes_eq_true}
use Rattle.doc_words_search.specs.Words.{capped, count, counts_of}
use Rattle.doc_words_search.specs.WordSteps.{one_more}
use Rattle.doc_words_search.proofs.CountSteps.{at_word, counted_front, one_past}

abbrev order : List ℕ → List ℕ → Ordering
order a b = slice_cmp nat_cmp a b

-- none of these is below the word, and each is above it
abbrev pub NoneBelow : List ℕ → List (List ℕ) → Type 0
NoneBelow word words = AllByRecursion (λ other. is_lt (order other word) ≡ false) words

abbrev pub AllAbove : List ℕ → List (List ℕ) → Type 0
AllAbove word words = AllByRecursion (λ other. order word other ≡ Less) words

-- no word is below one before it
abbrev pub Rising : List (List ℕ) → Type 0
Rising [] = ⊤
Rising (word ∷ words) = NoneBelow word words × Rising words

pub rising : (words : List (List ℕ)) → IsSorted (slice_cmp nat_cmp) words → Rising words
rising [] sorted = tt
rising (word ∷ words) sorted = (
  none words (λ j d low. sorted_far (λ x y. is_lt (order x y)) (ranks_by nat_list_cmp_total (λ x. x)) (word ∷ words) sorted 0 (suc j) d
      zero-le (omega (arith, low))),
  rising words (λ j d from low.
      let e : suc j + 1 ≡ suc (j + 1) = omega arith in
      subst (λ n. is_lt (order (get_or (word ∷ words) n d) (get_or words j d)) ≡ false) e (sorted (suc j) d zero-le (omega (arith, low)))),
)
  where
    none : (more : List (List ℕ)) → ((j : ℕ) (d : List ℕ) → j < length more → is_lt (order (get_or more j d) word) ≡ false)
        → NoneBelow word more
    none [] each = tt
    none (other ∷ more) each = (each 0 other (omega arith), none more (λ j d low. each (suc j) d (omega (arith, low))))

pub rising_drop : (n : ℕ) (words : List (List ℕ)) → Rising words → Rising (drop n words)
rising_drop zero words up = up
rising_drop (suc n) [] up = tt
rising_drop (suc n) (word ∷ words) up = rising_drop n words up.1

-- what is above one that is above the word
above_both : (word other more : List ℕ) → order word other ≡ Less → is_lt (order more other) ≡ false → order word more ≡ Less
above_both word other more less above = by (order more other) refl
  where
    by : (o : Ordering) → order more other ≡ o → order word more ≡ Less
    by Less p = absurd (clash (is_lt (order more other)) (ap is_lt p) above)
    by Equal p = subst (λ v. order word v ≡ Less) (sym (exact_bytes more other p)) less
    by Greater p = nat_list_cmp_total.trans word other more less (nat_list_cmp_total.antisymm other more ∙ ap ordering_reverse p)

-- another one that isn't below is above
other_above : (word other : List ℕ) → bytes_eq word other ≡ false → is_lt (order other word) ≡ false → order word other ≡ Less
other_above word other differs above = by (order word other) refl
  where
    by : (o : Ordering) → order word other ≡ o → order word other ≡ Less
    by Less p = p
    by Equal p = absurd (clash (bytes_eq word other) (sym (is_eq-slice_cmp word other) ∙ ap is_eq p) differs)
    by Greater p =
        absurd (clash (is_lt (order other word)) (ap is_lt (nat_list_cmp_total.antisymm other word ∙ ap ordering_reverse p)) above)

all_above : (word other : List ℕ) (words : List (List ℕ)) → order word other ≡ Less → NoneBelow other words → AllAbove word words
all_above word other [] less above = tt
all_above word other (more ∷ words) less above = (above_both word other more less above.0, all_above word other words less above.1)

-- how many at the front are the word
abbrev same : List ℕ → List (List ℕ) → ℕ
same word words = prefix_len (bytes_eq word) words

-- behind its run, all are above a word
pub past_run : (word : List ℕ) (words : List (List ℕ)) → NoneBelow word words → Rising words → AllAbove word (drop (same word words) words)
past_run word [] above up = tt
past_run word (other ∷ words) above up = by (bytes_eq word other) refl (past_run word words above.1 up.1)
  where
    by : (b : Bool) → bytes_eq word other ≡ b → AllAbove word (drop (same word words) words)
        → AllAbove word (drop (cond b (1 + same word words) 0) (other ∷ words))
    by true e ih =
        let n : suc (same word words) ≡ 1 + same word words = omega arith in
        subst (λ k. AllAbove word (drop k (other ∷ words))) n ih
    by false e ih =
        let less : order word other ≡ Less = other_above word other e above.0 in
        (less, all_above word other words less up.0)

-- what holds of each word, holds of one among them
among : (P : List ℕ → Type 0) (words : List (List ℕ)) (q : List ℕ) → AllByRecursion P words → list_any (bytes_eq q) words ≡ true → P q
among P [] q all e = absurd (clash false e refl)
among P (word ∷ words) q all e = by (bytes_eq q word) refl (among P words q all.1)
  where
    by : (b : Bool) → bytes_eq q word ≡ b → (list_any (bytes_eq q) words ≡ true → P q) → P q
    by true h ih = subst P (sym (bytes_eq_true q word h)) all.0
    by false h ih = ih (ap (λ b. b || list_any (bytes_eq q) words) (sym h) ∙ e)

-- a word has no count among those above it
no_count : (word : List ℕ) (words : List (List ℕ)) → AllAbove word words → map.get (counts_of words) word ≡ None
no_count word words above = at_word words word ∙ by (list_any (bytes_eq word) words) refl
  where
    by : (b : Bool) → list_any (bytes_eq word) words ≡ b → cond b (Some (count words word)) None ≡ None
    by true e =
        absurd (clash (is_eq (order word word)) (ap is_eq (tied_itself nat_list_cmp_total word))
        (ap is_eq (among (λ other. order word other ≡ Less) words word above e)))
    by false e = refl

-- what has a count stands among the words
has_count : (words : List (List ℕ)) (q : List ℕ) (n : ℕ) → map.get (counts_of words) q ≡ Some n → list_any (bytes_eq q) words ≡ true
has_count words q n is = by (list_any (bytes_eq q) words) refl
  where
    by : (b : Bool) → list_any (bytes_eq q) words ≡ b → b ≡ true
    by true e = refl
    by false e =
        absurd (clash (is_some (map.get (counts_of words) q)) (ap is_some is)
        (ap is_some (at_word words q ∙ ap (λ b. cond b (Some (count words q)) None) e)))

-- a word comes first among the counts of those above it
put_first : (word : List ℕ) (n : ℕ) (words : List (List ℕ)) (entries : List (List ℕ × ℕ)) → map.entries (counts_of words) ≡ entries
    → AllAbove word words → map.put (slice_cmp nat_cmp) word n entries ≡ (word, n) ∷ entries
put_first word n words [] are above = refl
put_first word n words (e ∷ entries) are above = rw less refl
  where
    found : map.get (counts_of words) e.0 ≡ Some e.1
    found =
        map.get-entries (counts_of words) e.0 ∙ ap (map.find (slice_cmp nat_cmp) e.0) are
        ∙ ap (λ b. cond b (Some e.1) (map.find (slice_cmp nat_cmp) e.0 entries)) (ap is_eq (tied_itself nat_list_cmp_total e.0))

    less : order word e.0 ≡ Less
    less = among (λ other. order word other ≡ Less) words e.0 above (has_count words e.0 e.1 found)

-- a count that is set twice
set_twice : (counts : TextMap ℕ) (word : List ℕ) (m n : ℕ) → map.insert (map.insert counts word m) word n ≡ map.insert counts word n
set_twice counts word m n = map.same_map nat_list_cmp_total exact_bytes _ _ (λ q.
    map.get-insert nat_list_cmp_total (map.insert counts word m) word n q
    ∙ ap (cond (eq_by_cmp (slice_cmp nat_cmp) q word) (Some n)) (map.get-insert nat_list_cmp_total counts word m q)
    ∙ by q (eq_by_cmp (slice_cmp nat_cmp) q word)
    ∙ sym (map.get-insert nat_list_cmp_total counts word n q))
  where
    by : (q : List ℕ) (b : Bool) → cond b (Some n) (cond b (Some m) (map.get counts q)) ≡ cond b (Some n) (map.get counts q)
    by q true = refl
    by q false = refl

-- one more of a word that has a count
again : (counts : TextMap ℕ) (word : List ℕ) (n : ℕ)
    → one_more (map.insert counts word (capped (n + 1))) word ≡ map.insert counts word (capped (n + 1 + 1))
again counts word n =
    ap (λ o. map.insert (map.insert counts word (capped (n + 1))) word (capped (unwrap_or o 0 + 1)))
    (map.get-insert nat_list_cmp_total counts word (capped (n + 1)) word
    ∙ ap (λ b. cond b (Some (capped (n + 1))) (map.get counts word)) (ap is_eq (tied_itself nat_list_cmp_total word)))
    ∙ ap (map.insert (map.insert counts word (capped (n + 1))) word) (one_past (2 ^ 64 - 1) (n + 1))
    ∙ set_twice counts word (capped (n + 1)) (capped (n + 1 + 1))

-- the counts of a word's run and what is behind it
run_counts : (word : List ℕ) (words : List (List ℕ)) → NoneBelow word words → Rising words
    → counts_of (word ∷ words) ≡ map.insert (counts_of (drop (same word words) words)) word (capped (same word words + 1))
run_counts word [] above up =
    counted_front word [] ∙ ap (λ o. map.insert (counts_of []) word (capped (unwrap_or o 0 + 1))) (no_count word [] tt)
run_counts word (other ∷ words) above up =
    counted_front word (other ∷ words) ∙ by (bytes_eq word other) refl (run_counts word words above.1 up.1)
  where
    by : (b : Bool) → bytes_eq word other ≡ b
        → counts_of (word ∷ words) ≡ map.insert (counts_of (drop (same word words) words)) word (capped (same word words + 1))
        → one_more (counts_of (other ∷ words)) word
        ≡ map.insert (counts_of (drop (cond b (1 + same word words) 0) (other ∷ words))) word (capped (cond b (1 + same word words) 0 + 1))
    by true e ih =
        let n : same word words + 1 ≡ 1 + same word words = omega arith in
        let m : suc (same word words) ≡ 1 + same word words = omega arith in
        ap (λ c. one_more c word)
        (ap (λ w. counts_of (w ∷ words)) (sym (bytes_eq_true word other e)) ∙ ih)
        ∙ again (counts_of (drop (same word words) words)) word (same word words)
        ∙ ap₂ (λ k c. map.insert (counts_of (drop k (other ∷ words))) word (capped (c + 1))) m n
    by false e ih =
        let less : order word other ≡ Less = other_above word other e above.0 in
        ap (λ o. map.insert (counts_of (other ∷ words)) word (capped (unwrap_or o 0 + 1)))
        (no_count word (other ∷ words) (less, all_above word other words less up.0))

-- the entries of a word's run and what is behind it
pub run_entries : (word : List ℕ) (words : List (List ℕ)) → Rising (word ∷ words)
    → map.entries (counts_of (word ∷ words)) ≡ (word, capped (same word words + 1)) ∷ map.entries (counts_of (drop (same word words) words))
run_entries word words up =
    ap map.entries (run_counts word words up.0 up.1)
    ∙ map.entries-insert nat_list_cmp_total (counts_of (drop (same word words) words)) word (capped (same word words + 1))
    ∙ put_first word (capped (same word words + 1)) (drop (same word words) words) _ refl (past_run word words up.0 up.1)

-- a run more
pub run_more : (words : List (List ℕ)) (at n : ℕ) (word : List ℕ) (more : List (List ℕ)) (all before after : List (List ℕ × ℕ))
    → at < length words → word ≡ get_or words at word → more ≡ take (length words - (at + 1)) (drop (at + 1) words)
    → n ≡ prefix_len (bytes_eq word) more → n ≤ length more → Rising (drop at words)
    → all ≡ before ++ map.entries (counts_of (drop at words)) → after ≡ before ++ (word, capped (n + 1)) ∷ []
    → (at + (n + 1) ≤ length words) × Rising (drop (at + (n + 1)) words)
    × (all ≡ after ++ map.entries (counts_of (drop (at + (n + 1)) words)))
run_more words at n word more all before after low is rest count within up so_far one =
    let behind : more ≡ drop (at + 1) words = rest ∙ take_rest words (at + 1) in
    let front : drop at words ≡ word ∷ more = drop_more words at word low ∙ ap₂ (λ w ws. w ∷ ws) (sym is) (sym behind) in
    let left : drop n more ≡ drop (at + (n + 1)) words =
    ap (drop n) behind ∙ drop-drop n (at + 1) words ∙ ap (λ k. drop k words) (let e : at + 1 + n ≡ at + (n + 1) = omega arith in e) in
    let rise : Rising (word ∷ more) = subst Rising front up in (
      let size : length more ≡ length words - (at + 1) = ap length behind ∙ length-drop (at + 1) words in omega (arith, low, size, within),
      subst Rising left (rising_drop n more rise.1),
      so_far ∙ ap (λ ws. before ++ map.entries (counts_of ws)) front
          ∙ ap (λ es. before ++ es) (run_entries word more rise)
          ∙ ap₂ (λ k ws. before ++ (word, capped (k + 1)) ∷ map.entries (counts_of ws)) (sym count)
          (ap (λ k. drop k more) (sym count) ∙ left)
          ∙ sym (append_assoc before ((word, capped (n + 1)) ∷ []) (map.entries (counts_of (drop (at + (n + 1)) words))))
          ∙ ap (λ es. es ++ map.entries (counts_of (drop (at + (n + 1)) words))) (sym one),
    )

-- of no words there are no entries
pub none_left : (words : List (List ℕ)) (at : ℕ) (all before : List (List ℕ × ℕ)) → length words ≤ at
    → all ≡ before ++ map.entries (counts_of (drop at words)) → before ≡ all
none_left words at all before past so_far =
    sym (so_far ∙ ap (λ ws. before ++ map.entries (counts_of ws)) (drop_all at words past)
    ∙ ap (λ es. before ++ es)
    (no_entries (map.entries (counts_of [])) (sym (map.len-entries (counts_of [])) ∙ map.len-empty (slice_cmp nat_cmp) ℕ))
    ∙ append-nil before)
  where
    no_entries : (es : List (List ℕ × ℕ)) → length es ≡ 0 → es ≡ []
    no_entries [] e = refl
    no_entries (e ∷ es) is = absurd (omega (arith, is))

-- the entries of a map are that map
pub entries_again : (counts : TextMap ℕ) → map.from_entries (map.entries counts) ≡ counts
entries_again counts =
    map.same_entries_map (map.from_entries (map.entries counts)) counts
    (entries_in_order nat_list_cmp_total exact_bytes (map.entries counts)
    (is_sorted_keys (slice_cmp nat_cmp) (map.entries counts) (map.entries_sorted counts)))
