-- An index: what its order says, and the index after a page enters it and after one leaves it.
use Rattle.std.proofs.Common.{◌≡◌, ◌≢◌, ◌<◌, ◌≤◌, ◌+◌, ◌-◌, lt_of_le_of_lt, arith, ℕ, List, [], ◌∷◌, Bool, true, false, cond, ◌&&◌, length, get_or, insert, remove, is_some, refl, ap, sym, subst, ◌∙◌, All, HoldsAt, IsTrue}
use Rattle.std.specs.Prelude.{MatchResult, Result, Ok, Err, Option, Some, None}
use Rattle.std.specs.Cmp.Lexicographic.{slice_cmp}
use Rattle.std.specs.FinMap as map
use Rattle.std.specs.List.Sorted.{IsBinarySearchResult, IsNonDecreasingBy, IsPartitionPoint, IsSearchInRange, IsStrictlySortedBy}
use Rattle.std.specs.Map.{keys_of}
use Rattle.std.specs.Ordering.{nat_cmp, ordering_index}
use Rattle.std.specs.declared.cmp.Ordering.TheVariants.{Less, Equal, Greater}
use Rattle.std.proofs.lemmas.List.Edits.{length-insert, length-remove}
use Rattle.std.proofs.lemmas.List.Elements.{All-from_recursion}
use Rattle.std.proofs.lemmas.List.{get_or_default}
use Rattle.std.proofs.lemmas.Option.{none-some, same_Some}
use Rattle.doc_index.specs.declared.held.Held.{Held}
use Rattle.doc_index.specs.Held.{Known, count_in, held, known, slot_at}
use Rattle.doc_index.specs.IndexSteps.{IsIndex}
use Rattle.doc_index_tables.specs.Maps.{pair_cmp}
use Rattle.doc_index_tables.specs.TableSteps.{HasCounts, HasSame, LacksCounts, NumberTable, number_at, number_in, same_number}
use Rattle.doc_index_tables.proofs.CountSteps.{number_is}
use Rattle.doc_index_tables.proofs.PairSteps.{pairs_total}
use Rattle.doc_page_parts.proofs.Maps.{is_sorted_keys}
use Rattle.doc_page_parts.proofs.Options.{is_some_false}
use Rattle.doc_index.proofs.HeldSteps.{apart_after, apart_left, held_as, held_entered, held_left, held_one, not_same, pair_of, stays, stood_before}
use Rattle.doc_index.proofs.OrderSteps.{HavePages, IsGap, all_present, along, equal_is, find_gap, gap_from, order_of, put_gap, removed_along, rises}

-- an empty index
pub nothing_held : {T : Type 0} → IsIndex {T = T} 0 [] [] map.empty
nothing_held {T} = record {
  within = λ i above. refl;
  apart = λ i j page other at. absurd (none-some page at);
  ordered = sym (no_entries (map.entries (held {T = T} [])) (sym (map.len-entries (held {T = T} [])) ∙ map.len-empty pair_cmp (Known T)));
  count = sym (map.len-empty pair_cmp (Known T));
  counted = λ key i. ap (λ r. number_in r i) (map.get-empty (slice_cmp nat_cmp) key);
}
  where
    no_entries : {X : Type 0} (es : List X) → length es ≡ 0 → es ≡ []
    no_entries [] e = refl
    no_entries (x ∷ es) e = absurd (omega (arith, e))

module _ {T : Type 0} {last : ℕ} (slots : List (Option (Held T))) (order : List ℕ) (postings : NumberTable)
    (is : IsIndex last slots order postings) where
  rising : IsStrictlySortedBy pair_cmp (keys_of (along slots order))
  rising =
      subst (λ es. IsStrictlySortedBy pair_cmp (keys_of es)) (sym is.ordered)
      (is_sorted_keys pair_cmp (map.entries (held slots)) (map.entries_sorted (held slots)))

  have_pages : HavePages slots order
  have_pages =
      let same : length order ≡ length (along slots order) = is.count ∙ map.len-entries (held slots) ∙ ap length (sym is.ordered) in
      all_present slots order (omega (arith, same))

  pub all_have : All (λ slot. IsTrue (is_some (slot_at slots slot))) order
  all_have = All-from_recursion (λ slot. IsTrue (is_some (slot_at slots slot))) order have_pages

  gap_at : (q : List ℕ × ℕ) (at : ℕ) → at ≤ length order
      → (IsNonDecreasingBy (λ i. ordering_index (order_of slots q i)) order
      → IsPartitionPoint (λ i. order_of slots q i ≡ Less) (λ i. order_of slots q i ≡ Greater) order at)
      → IsGap slots q order at
  gap_at q at within parts =
      let parted = parts (rises slots q order have_pages rising) in
      gap_from slots q order at within parted.0 parted.1

  pub none_found : (q : List ℕ × ℕ) (at : ℕ) → at ≤ length order
      → (IsNonDecreasingBy (λ i. ordering_index (order_of slots q i)) order
      → IsPartitionPoint (λ i. order_of slots q i ≡ Less) (λ i. order_of slots q i ≡ Greater) order at)
      → map.get (held slots) q ≡ None
  none_found q at within parts =
      map.get-entries (held slots) q ∙ ap (map.find pair_cmp q) (sym is.ordered)
      ∙ find_gap slots q order at have_pages (gap_at q at within parts)

  -- the page in a slot that a search found
  pub stands : (q : List ℕ × ℕ) (at slot : ℕ) → HoldsAt (λ i. order_of slots q i ≡ Equal) order at → slot ≡ get_or order at slot
      → (page : Held T) × (slot_at slots slot ≡ Some page) × (pair_of page ≡ q) × (map.get (held slots) q ≡ Some (known page))
  stands q at slot equal there =
      let found = equal_is (slot_at slots slot) q (subst (λ i. order_of slots q i ≡ Equal) (sym there) (equal slot)) in
      (found.0, found.1, found.2, held_as slots is.apart q slot found.0 found.1 found.2)

  pub has_pair : (q : List ℕ × ℕ) (at slot : ℕ) → HoldsAt (λ i. order_of slots q i ≡ Equal) order at → slot ≡ get_or order at slot
      → (page : Held T) → slot_at slots slot ≡ Some page → pair_of page ≡ q
  has_pair q at slot equal there page stood =
      let found = stands q at slot equal there in
      ap pair_of (same_Some page found.0 (sym stood ∙ found.1)) ∙ found.2

  -- the place of a pair that is free
  pub free_place : (q : List ℕ × ℕ) → map.get (held slots) q ≡ None → (r : Result ℕ ℕ) (at : ℕ) → IsSearchInRange r (length order)
      → IsBinarySearchResult (order_of slots q) order r → {P : ℕ → Type 0} → MatchResult r (λ x. at ≡ x) P → ((x : ℕ) → P x → at ≡ x)
      → (at ≤ length order) × IsGap slots q order at
  free_place q free (Ok x) at within place is_at told =
      let there = stands q x (get_or order x 0) place (get_or_default order x 0 (get_or order x 0) within) in
      absurd (none-some (known there.0) (sym free ∙ there.3))
  free_place q free (Err x) at within place is_at told =
      let same = sym (told x is_at) in
      (subst (λ n. n ≤ length order) same within, subst (IsGap slots q order) same (gap_at q x within place))

  -- a page enters a slot
  module _ (v : ℕ) (page : Held T) (vacant : slot_at slots v ≡ None) (free : map.get (held slots) (pair_of page) ≡ None)
      (after : List (Option (Held T))) (key : ℕ) (at_key : key ≡ v)
      (changed : slot_at after key ≡ Some page) (others : (j : ℕ) → j ≢ key → slot_at after j ≡ slot_at slots j) where
    there : slot_at after v ≡ Some page
    there = ap (slot_at after) (sym at_key) ∙ changed

    elsewhere : (j : ℕ) → j ≢ v → slot_at after j ≡ slot_at slots j
    elsewhere j apart = others j (λ e. apart (e ∙ at_key))

    pub entered_held : held after ≡ map.insert (held slots) (pair_of page) (known page)
    entered_held = held_entered slots is.apart v page vacant free after there elsewhere

    pub entered_others : (i : ℕ) (other : Held T) → slot_at slots i ≡ Some other → slot_at after i ≡ Some other
    entered_others = stays slots is.apart v page vacant free after there elsewhere

    module _ (at : ℕ) (order_after : List ℕ) (postings_after : NumberTable) (last_after : ℕ)
        (within : at ≤ length order) (gap : IsGap slots (pair_of page) order at)
        (placed : order_after ≡ insert order at v) (grown : last ≤ last_after) (reached : v ≤ last_after)
        (counts : HasCounts page.counts v postings postings_after) where
      pub entered : IsIndex last_after after order_after postings_after
      entered = record {
        within = λ i above. elsewhere i (λ e. above_all i above (subst (λ j. j ≤ last_after) (sym e) reached))
            ∙ is.within i (lt_of_le_of_lt grown above);
        apart = apart_after slots is.apart v page vacant free after there elsewhere;
        ordered = ap (along after) placed
            ∙ put_gap slots after v page there entered_others order at have_pages gap
            ∙ ap (map.put pair_cmp (pair_of page) (known page)) is.ordered
            ∙ sym (map.entries-insert pairs_total (held slots) (pair_of page) (known page))
            ∙ ap map.entries (sym entered_held);
        count = ap length placed ∙ length-insert order at v within ∙ ap (λ n. n + 1) is.count
            ∙ sym (map.len-insert pairs_total (held slots) (pair_of page) (known page)
            ∙ ap (λ b. cond b (map.len (held slots)) (map.len (held slots) + 1)) (ap is_some free))
            ∙ ap map.len (sym entered_held);
        counted = λ q i. counts q i ∙ by_count q i (same_number i v) refl;
      }
        where
          above_all : (i : ℕ) → last_after < i → i ≤ last_after → ⊥
          above_all i above below = omega (arith, above, below)

          by_count : (q : List ℕ) (i : ℕ) (b : Bool) → same_number i v ≡ b
              → cond b (map.get page.counts q) (number_at postings q i) ≡ count_in (slot_at after i) q
          by_count q i true e = sym (ap (λ x. count_in x q) (ap (slot_at after) (number_is i v e) ∙ there))
          by_count q i false e = is.counted q i ∙ ap (λ x. count_in x q) (sym (elsewhere i (not_same i v e)))

  -- a page leaves its slot
  module _ (v : ℕ) (page : Held T) (stood : slot_at slots v ≡ Some page) (after : List (Option (Held T)))
      (gone : slot_at after v ≡ None) (elsewhere : (j : ℕ) → j ≢ v → slot_at after j ≡ slot_at slots j) where
    pub left_held : held after ≡ map.remove (held slots) (pair_of page)
    left_held = held_left slots is.apart v page stood after gone elsewhere

    pub left_others : (i : ℕ) (other : Held T) → slot_at after i ≡ Some other → slot_at slots i ≡ Some other
    left_others = stood_before slots is.apart v page stood after gone elsewhere

    module _ (at : ℕ) (order_after : List ℕ) (postings_after : NumberTable) (within : at < length order)
        (leads : v ≡ get_or order at v) (removed : order_after ≡ remove order at)
        (counts : LacksCounts page.counts v postings postings_after) where
      pub left : IsIndex last after order_after postings_after
      left = record {
        within = λ i above. by_last i above (same_number i v) refl;
        apart = apart_left slots is.apart v page stood after gone elsewhere;
        ordered = ap (along after) removed
            ∙ removed_along slots after v page stood gone (λ i other at_other differs. (
              elsewhere i differs ∙ at_other,
              λ same. differs (is.apart i v other page at_other stood (ap (λ p. p.0) same) (ap (λ p. p.1) same)),
            ))
            order at have_pages within (λ d. get_or_default order at d v within ∙ sym leads) (held slots) is.ordered
            ∙ ap map.entries (sym left_held);
        count = one_less (length order_after) (map.len (held slots)) (ap (λ os. length os + 1) removed ∙ length-remove order at within ∙ is.count)
            ∙ sym (map.len-remove pairs_total (held slots) (pair_of page)
            ∙ ap (λ b. cond b (map.len (held slots) - 1) (map.len (held slots))) (ap is_some (held_one slots is.apart v page stood)))
            ∙ ap map.len (sym left_held);
        counted = λ q i. counts q i ∙ by_count q i (same_number i v) refl;
      }
        where
          one_less : (m n : ℕ) → m + 1 ≡ n → m ≡ n - 1
          one_less m n e = omega (arith, e)

          by_last : (i : ℕ) → last < i → (b : Bool) → same_number i v ≡ b → slot_at after i ≡ None
          by_last i above true e = ap (slot_at after) (number_is i v e) ∙ gone
          by_last i above false e = elsewhere i (not_same i v e) ∙ is.within i above

          by_key : (q : List ℕ) (b : Bool) → map.contains_key page.counts q ≡ b → cond b None (number_at postings q v) ≡ None
          by_key q true e = refl
          by_key q false e = is.counted q v ∙ ap (λ x. count_in x q) stood ∙ is_some_false _ e

          by_count : (q : List ℕ) (i : ℕ) (b : Bool) → same_number i v ≡ b
              → cond (b && map.contains_key page.counts q) None (number_at postings q i) ≡ count_in (slot_at after i) q
          by_count q i true e =
              ap (λ j. cond (map.contains_key page.counts q) None (number_at postings q j)) (number_is i v e)
              ∙ by_key q (map.contains_key page.counts q) refl
              ∙ sym (ap (λ x. count_in x q) (ap (slot_at after) (number_is i v e) ∙ gone))
          by_count q i false e = is.counted q i ∙ ap (λ x. count_in x q) (sym (elsewhere i (not_same i v e)))

  -- tables that have the same
  pub same_index : (later : NumberTable) → HasSame postings later → IsIndex last slots order later
  same_index later same = record {
    within = is.within;
    apart = is.apart;
    ordered = is.ordered;
    count = is.count;
    counted = λ key i. same key i ∙ is.counted key i;
  }
