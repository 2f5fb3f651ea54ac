-- The slots that are marked, and what they have of the pages that are held.
use Rattle.std.proofs.Common.{◌≡◌, ◌≢◌, ℕ, zero, suc, ◌+◌, ◌<◌, List, [], ◌∷◌, ◌++◌, Bool, true, false, cond, get_or, length, take, set, arith}
use Rattle.std.proofs.Common.{refl, ap, ap₂, sym, ◌∙◌, is_some, subst, sum_by, replicate, zero-add, inl, inr}
use Rattle.std.specs.Prelude.{Option, Some, None, map as mapped}
use Rattle.std.specs.FinMap as map
use Rattle.std.specs.FinMap.Entries.{by_order}
use Rattle.std.specs.Ordering.{is_eq, nat_cmp}
use Rattle.std.specs.declared.cmp.Ordering.{Ordering}
use Rattle.std.specs.declared.cmp.Ordering.TheVariants.{Less, Equal, Greater}
use Rattle.std.proofs.lemmas.Bool.{both_ways, cases_lt}
use Rattle.std.proofs.lemmas.List.{take_more}
use Rattle.std.proofs.lemmas.List.Sums.{sum_by_push, sum_by-cons}
use Rattle.std.proofs.lemmas.Option.{none-some}
use Rattle.doc_index.specs.declared.held.Held.{Held}
use Rattle.doc_index.specs.Held.{AreApart, count_in, entries_of, slot_at}
use Rattle.doc_index_tables.specs.Maps.{TextMap, pair_cmp}
use Rattle.doc_index_tables.proofs.PairSteps.{pair_is, pairs_total, same_pair}
use Rattle.doc_words_search.specs.Held.{words_held}
use Rattle.doc_words_search.specs.Searches.{pages_of}
use Rattle.doc_words_search.specs.SearchSteps.{Agree, AgreeEach, AreMarked, MarksWord, MarksWords, StayMarked, has_word, marked_at, onto_page, pages_at, sum_marked}
use Rattle.doc_words_search.proofs.HeldSteps.{entry_in, no_entries, page_of}

none_marked : (marks : List Bool) (f : ℕ → ℕ) → ((i : ℕ) → marked_at marks i ≡ false) → sum_marked marks f ≡ 0
none_marked [] f none = refl
none_marked (mark ∷ marks) f none =
    let rest = none_marked marks (λ i. f (suc i)) (λ i. none (suc i)) in
    ap₂ (λ b n. cond b (f 0) 0 + n) (none 0) rest

all_false : (n i : ℕ) → marked_at (replicate n false) i ≡ false
all_false zero i = refl
all_false (suc n) zero = refl
all_false (suc n) (suc i) = all_false n i

-- at first none is marked
pub at_first : (n : ℕ) → AreMarked (replicate n false) []
at_first n f = sym (none_marked (replicate n false) f (all_false n))

-- what is marked at a place of the list
pub at_place : (marks : List Bool) (k : ℕ) (d : Bool) → k < length marks → get_or marks k d ≡ marked_at marks k
at_place [] k d low = absurd (omega (arith, low))
at_place (mark ∷ marks) zero d low = refl
at_place (mark ∷ marks) (suc k) d low = at_place marks k d (omega (arith, low))

more_marked : (marks : List Bool) (k : ℕ) (f : ℕ → ℕ) → k < length marks → marked_at marks k ≡ false
    → sum_marked (set marks k true) f ≡ sum_marked marks f + f k
more_marked [] k f low off = absurd (omega (arith, low))
more_marked (mark ∷ marks) zero f low off =
    let rest : ℕ = sum_marked marks (λ i. f (suc i)) in
    let now : cond mark (f 0) 0 ≡ 0 = ap (λ b. cond b (f 0) 0) off in
    omega (arith, now)
more_marked (mark ∷ marks) (suc k) f low off =
    let rest = more_marked marks k (λ i. f (suc i)) (omega (arith, low)) off in
    omega (arith, rest)

-- one more is marked
pub one_marked : (marks : List Bool) (places : List ℕ) (k : ℕ) → k < length marks → marked_at marks k ≡ false → AreMarked marks places
    → AreMarked (set marks k true) (places ++ k ∷ [])
one_marked marks places k low off are f =
    sum_by_push f places k ∙ ap (λ n. n + f k) (are f) ∙ sym (more_marked marks k f low off)

abbrev Entry : Type 0
Entry = (List ℕ × ℕ) × TextMap ℕ

abbrev of_entry : (List ℕ × TextMap ℕ → ℕ) → Entry → ℕ
of_entry f e = f (page_of e)

sum_mapped : {X Y : Type 0} (f : Y → ℕ) (g : X → Y) (xs : List X) → sum_by f (mapped g xs) ≡ sum_by (λ x. f (g x)) xs
sum_mapped f g [] = refl
sum_mapped f g (x ∷ xs) =
    sum_by-cons f (g x) (mapped g xs) ∙ ap (λ n. f (g x) + n) (sum_mapped f g xs) ∙ sym (sum_by-cons (λ y. f (g y)) x xs)

put_sum : (g : Entry → ℕ) (k : List ℕ × ℕ) (v : TextMap ℕ) (es : List Entry) → map.find pair_cmp k es ≡ None
    → sum_by g (map.put pair_cmp k v es) ≡ g (k, v) + sum_by g es
put_sum g k v [] none = sum_by-cons g (k, v) []
put_sum g k v (e ∷ es) none = by (pair_cmp k e.0) refl none (put_sum g k v es)
  where
    by : (o : Ordering) → pair_cmp k e.0 ≡ o → cond (is_eq o) (Some e.1) (map.find pair_cmp k es) ≡ None
        → (map.find pair_cmp k es ≡ None → sum_by g (map.put pair_cmp k v es) ≡ g (k, v) + sum_by g es)
        → sum_by g (by_order o ((k, v) ∷ e ∷ es) ((e.0, v) ∷ es) (e ∷ map.put pair_cmp k v es)) ≡ g (k, v) + sum_by g (e ∷ es)
    by Less is off ih = sum_by-cons g (k, v) (e ∷ es)
    by Equal is off ih = absurd (none-some e.1 (sym off))
    by Greater is off ih =
        let a : sum_by g (e ∷ map.put pair_cmp k v es) ≡ g e + sum_by g (map.put pair_cmp k v es)
        = sum_by-cons g e (map.put pair_cmp k v es) in
        let b : sum_by g (e ∷ es) ≡ g e + sum_by g es = sum_by-cons g e es in
        let c = ih off in
        omega (arith, a, b, c)

module _ {T : Type 0} where
  pub still : (slots : List (Option (Held T))) (old new : List Bool) → StayMarked old new → (words : List (List ℕ))
      → MarksWords slots old words → MarksWords slots new words
  still slots old new stay [] are = tt
  still slots old new stay (word ∷ words) are = (λ i is. stay i (are.0 i is), still slots old new stay words are.1)

  pub marks_more : (slots : List (Option (Held T))) (marks : List Bool) (words : List (List ℕ)) (word : List ℕ)
      → MarksWords slots marks words → MarksWord slots marks word → MarksWords slots marks (words ++ word ∷ [])
  marks_more slots marks [] word are is = (is, tt)
  marks_more slots marks (w ∷ words) word are is = (are.0, marks_more slots marks words word are.1 is)

  -- what a sum over pages has of a slot
  abbrev term : (List ℕ × TextMap ℕ → ℕ) → Option (Held T) → ℕ
  term f None = 0
  term f (Some page) = f (page.path, page.counts)

  by_slots : (f : List ℕ × TextMap ℕ → ℕ) (slots : List (Option (Held T))) (ns : List ℕ)
      → sum_by f (pages_at slots ns) ≡ sum_by (λ n. term f (slot_at slots n)) ns
  by_slots f slots [] = refl
  by_slots f slots (n ∷ ns) =
      by (slot_at slots n) ∙ ap (λ m. term f (slot_at slots n) + m) (by_slots f slots ns)
      ∙ sym (sum_by-cons (λ n. term f (slot_at slots n)) n ns)
    where
      by : (o : Option (Held T)) → sum_by f (onto_page o (pages_at slots ns)) ≡ term f o + sum_by f (pages_at slots ns)
      by None = sym (zero-add (sum_by f (pages_at slots ns)))
      by (Some page) = sum_by-cons f (page.path, page.counts) (pages_at slots ns)

  all_nothing : (g : Option (Held T) → ℕ) (slots : List (Option (Held T))) → ((i : ℕ) → g (slot_at slots i) ≡ 0) → sum_by g slots ≡ 0
  all_nothing g [] none = refl
  all_nothing g (slot ∷ slots) none =
      sum_by-cons g slot slots ∙ ap₂ (λ a b. a + b) (none 0) (all_nothing g slots (λ i. none (suc i)))

  -- the sum over marked slots is that over all, where the others add nothing
  over_all : (g : Option (Held T) → ℕ) → g None ≡ 0 → (marks : List Bool) (slots : List (Option (Held T)))
      → ((i : ℕ) → marked_at marks i ≡ false → g (slot_at slots i) ≡ 0) → sum_marked marks (λ i. g (slot_at slots i)) ≡ sum_by g slots
  over_all g off [] slots none = sym (all_nothing g slots (λ i. none i refl))
  over_all g off (mark ∷ marks) [] none =
      ap₂ (λ a b. a + b) (by mark) (over_all g off marks [] (λ i e. off))
    where
      by : (b : Bool) → cond b (g None) 0 ≡ 0
      by true = off
      by false = refl
  over_all g off (mark ∷ marks) (slot ∷ slots) none =
      ap₂ (λ a b. a + b) (by mark refl) (over_all g off marks slots (λ i e. none (suc i) e)) ∙ sym (sum_by-cons g slot slots)
    where
      by : (b : Bool) → mark ≡ b → cond b (g slot) 0 ≡ g slot
      by true e = refl
      by false e = sym (none 0 e)

  abbrev mine : List (Option (Held T)) → List Entry
  mine slots = mapped entry_in (entries_of slots)

  absent : (q : List ℕ × ℕ) (slots : List (Option (Held T)))
      → ((j : ℕ) (other : Held T) → slot_at slots j ≡ Some other → (other.path, other.stamp) ≢ q) → map.find pair_cmp q (mine slots) ≡ None
  absent q [] none = refl
  absent q (None ∷ slots) none = absent q slots (λ j. none (suc j))
  absent q (Some first ∷ slots) none = by (same_pair q (first.path, first.stamp)) refl (absent q slots (λ j. none (suc j)))
    where
      by : (b : Bool) → same_pair q (first.path, first.stamp) ≡ b → map.find pair_cmp q (mine slots) ≡ None
          → cond b (Some first.counts) (map.find pair_cmp q (mine slots)) ≡ None
      by true e rest = absurd (none zero first refl (sym (pair_is q (first.path, first.stamp) e)))
      by false e rest = rest

  apart_rest : (slot : Option (Held T)) (slots : List (Option (Held T))) → AreApart (slot ∷ slots) → AreApart slots
  apart_rest slot slots apart i j page other at also p s =
      let same : suc i ≡ suc j = apart (suc i) (suc j) page other at also p s in omega (arith, same)

  entries_sum : (f : List ℕ × TextMap ℕ → ℕ) (slots : List (Option (Held T))) → AreApart slots
      → sum_by (of_entry f) (map.entries (map.from_entries {R = pair_cmp} (mine slots))) ≡ sum_by (term f) slots
  entries_sum f [] apart = ap (sum_by (of_entry f)) (no_entries (TextMap ℕ))
  entries_sum f (None ∷ slots) apart =
      entries_sum f slots (apart_rest None slots apart)
      ∙ sym (sum_by-cons (term f) None slots ∙ zero-add (sum_by (term f) slots))
  entries_sum f (Some page ∷ slots) apart =
      let m = map.from_entries {R = pair_cmp} (mine slots) in
      let k : List ℕ × ℕ = (page.path, page.stamp) in
      ap (sum_by (of_entry f)) (map.entries-insert pairs_total m k page.counts)
      ∙ put_sum (of_entry f) k page.counts (map.entries m)
      (sym (map.get-entries m k) ∙ map.get-from_entries pairs_total (mine slots) k
      ∙ absent k slots (λ j other at same. clash j (apart zero (suc j) page other refl at (sym (ap (λ q. q.0) same))
      (sym (ap (λ q. q.1) same)))))
      ∙ ap (λ n. f (page.path, page.counts) + n) (entries_sum f slots (apart_rest (Some page) slots apart))
      ∙ sym (sum_by-cons (term f) (Some page) slots)
    where
      clash : (j : ℕ) → zero ≡ suc j → ⊥
      clash j e = absurd (omega (arith, e))

  module _ (slots : List (Option (Held T))) (marks : List Bool) (places : List ℕ) (apart : AreApart slots)
      (are : AreMarked marks places) where
    agree_one : (word : List ℕ) → MarksWord slots marks word → Agree (has_word word) (pages_at slots places) (pages_of (words_held slots))
    agree_one word marks_it f only =
        by_slots f slots places ∙ are (λ i. term f (slot_at slots i))
        ∙ over_all (term f) refl marks slots (λ i off. nothing (slot_at slots i) (marks_it i) off)
        ∙ sym (sum_mapped f page_of (map.entries (words_held slots)) ∙ entries_sum f slots apart)
      where
        nothing : (o : Option (Held T)) {b : Bool} → (is_some (count_in o word) ≡ true → b ≡ true) → b ≡ false → term f o ≡ 0
        nothing None h off = refl
        nothing (Some page) {b} h off = only (page.path, page.counts) (unheld (has_word word page.counts) h off)
          where
            unheld : (c : Bool) → (c ≡ true → b ≡ true) → b ≡ false → c ≡ false
            unheld true h off = absurd (both_ways b off (h refl))
            unheld false h off = refl

    pub agree_each : (words : List (List ℕ)) → MarksWords slots marks words
        → AgreeEach words (pages_at slots places) (pages_of (words_held slots))
    agree_each [] all = tt
    agree_each (word ∷ words) all = (agree_one word all.0, agree_each words all.1)

-- what is marked of a row, by what is left of it
abbrev pub MarkedBut : List (ℕ × ℕ) → List Bool → ℕ → map.FinMap nat_cmp ℕ → Type 0
MarkedBut left marks bound row =
    (slot : ℕ) → slot < bound → is_some (map.get row slot) ≡ true → is_some (map.find nat_cmp slot left) ≡ false
    → marked_at marks slot ≡ true

pub none_left_out : (row : map.FinMap nat_cmp ℕ) (marks : List Bool) (bound : ℕ) → MarkedBut (map.entries row) marks bound row
none_left_out row marks bound slot low there not_left =
    absurd (both_ways true (sym there ∙ ap is_some (map.get-entries row slot) ∙ not_left) refl)

module _ {T : Type 0} (slots : List (Option (Held T))) where
  -- the slots that have a word are those of its row, none of which is past the last
  pub marks_word : (marks : List Bool) (word text : List ℕ) (counts : ℕ → Option ℕ) (last bound : ℕ) → text ≡ word → bound ≡ last + 1
      → ((i : ℕ) → last < i → slot_at slots i ≡ None) → ((i : ℕ) → counts i ≡ count_in (slot_at slots i) text)
      → ((i : ℕ) → i < bound → is_some (counts i) ≡ true → marked_at marks i ≡ true) → MarksWord slots marks word
  marks_word marks word text counts last bound same end past are all i has = elim (cases_lt i bound) [
    | inl low ↦ all i low (ap is_some (are i ∙ ap (count_in (slot_at slots i)) same) ∙ has)
    | inr high ↦ absurd (both_ways true (sym has ∙ ap (λ o. is_some (count_in o word)) (past i (omega (arith, high, end)))) refl)
  ]

  pub words_next : (old new : List Bool) (words : List (List ℕ)) (i : ℕ) (word : List ℕ) → i < length words → word ≡ get_or words i word
      → StayMarked old new → MarksWords slots old (take i words) → MarksWord slots new word → MarksWords slots new (take (i + 1) words)
  words_next old new words i word low at stay are is =
      subst (MarksWords slots new) (ap (λ w. take i words ++ w ∷ []) at ∙ sym (take_more words i word low))
      (marks_more slots new (take i words) word (still slots old new stay (take i words) are) is)
