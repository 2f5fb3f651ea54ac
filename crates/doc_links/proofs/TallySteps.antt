-- What a tally of pages has of each path.
use Rattle.std.proofs.Common.{◌≡◌, ◌≢◌, ℕ, zero, suc, ◌+◌, List, [], ◌∷◌, Bool, true, false, cond, ◌==◌, if◌then◌else◌, is_some, sum_by, arith}
use Rattle.std.proofs.Common.{refl, ap, ap₂, sym, subst, ◌∙◌, take, ◌++◌, ◌<◌, get_or, length, zero-add}
use Rattle.std.specs.Prelude.{Option, Some, None, Result, Ok, Err, IfOk, OnOk, bytes_eq, map as mapped, unwrap_or}
use Rattle.std.specs.declared.cmp.Ordering.{Ordering}
use Rattle.std.specs.declared.cmp.Ordering.TheVariants.{Less}
use Rattle.std.specs.Cmp.Lexicographic.{slice_cmp}
use Rattle.std.specs.FinMap as map
use Rattle.std.specs.List.{AllByRecursion}
use Rattle.std.specs.List.Sorted.{IsStrictlySortedBy}
use Rattle.std.specs.Map.{keys_of}
use Rattle.std.specs.Ordering.{eq_by_cmp, nat_cmp}
use Rattle.std.proofs.lemmas.Bool.{both_ways, eqb-true}
use Rattle.std.proofs.lemmas.Cmp.{nat_list_cmp_total}
use Rattle.std.proofs.lemmas.List.{take_more}
use Rattle.std.proofs.lemmas.List.Sums.{sum_by_push, sum_by-cons}
use Rattle.std.proofs.lemmas.Map.Text.{is_eq-slice_cmp}
use Rattle.doc_index.specs.declared.held.Held.{Held}
use Rattle.doc_index.specs.Held.{AreApart, count_in, entries_of, known, slot_at}
use Rattle.doc_index_tables.specs.Maps.{NumberMap, TextMap, pair_cmp}
use Rattle.doc_index_tables.specs.TableSteps.{same_number}
use Rattle.doc_index_tables.proofs.CountSteps.{number_is, number_itself, text_itself}
use Rattle.std.proofs.lemmas.Option.{none-some as not_some, same_Some as some_is}
use Rattle.doc_index_tables.proofs.PairSteps.{pair_itself, pairs_total, same_pair}
use Rattle.doc_page_parts.specs.Sights.{leads_to_itself}
use Rattle.doc_links.specs.IndexSteps.{AreSingle, IsTally, if_seen, with_count, with_page, with_row, without_counts, written_at}
use Rattle.doc_links_pages.specs.KnownSteps.{count_at}
use Rattle.doc_links_pages.specs.PageLinks.{IsOnce}
use Rattle.doc_links_pages.specs.declared.page_links.PageLinks.{PageLinks}
use Rattle.doc_links.proofs.HeldSteps.{has_key}
use Rattle.doc_links_pages.proofs.CountSteps.{same_bytes}
use Rattle.doc_links.proofs.MapSteps.{sorted_is}

pub told_in_order : {X E Q : Type 0} {P S : X → Type 0} (r : Result X E) → (Q → (x : X) → P x → S x) → OnOk r Q → IfOk r P → IfOk r S
told_in_order (Ok x) f q h = f q x h
told_in_order (Err e) f q h = tt

pub bytes_itself : (q : List ℕ) → bytes_eq q q ≡ true
bytes_itself q = sym (is_eq-slice_cmp q q) ∙ text_itself q

no_more : (n : ℕ) → n + 0 ≡ n
no_more n = omega arith

-- a key before all others is none of them
pub find_before : {K X : Type 0} (R : K → K → Ordering) (k : K) (es : List (K × X)) → AllByRecursion (λ y. R k y ≡ Less) (keys_of es)
    → map.find R k es ≡ None
find_before R k [] before = refl
find_before R k (e ∷ es) before = rw before.0 (find_before R k es before.1)

-- ---- one page more

-- what another path has stays, and the path has so many more
count_after : (counts : TextMap ℕ) (path q : List ℕ) (n : ℕ)
    → count_at (with_count counts path n) q ≡ count_at counts q + cond (bytes_eq q path) n 0
count_after counts path q n = by (n == 0) refl
  where
    inner : (b : Bool) → bytes_eq q path ≡ b
        → unwrap_or (cond b (Some (count_at counts path + n)) (map.get counts q)) 0 ≡ count_at counts q + cond b n 0
    inner true e = ap (λ p. count_at counts p + n) (sym (same_bytes q path e))
    inner false e = sym (no_more (count_at counts q))

    nothing : (b : Bool) → ◌≡◌ {A = ℕ} (cond b 0 0) 0
    nothing true = refl
    nothing false = refl

    by : (b : Bool) → (n == 0) ≡ b
        → count_at (if b then counts else map.insert counts path (count_at counts path + n)) q
        ≡ count_at counts q + cond (bytes_eq q path) n 0
    by true e =
        sym (ap (λ k. count_at counts q + cond (bytes_eq q path) k 0) (zero_is n e)
        ∙ ap (λ k. count_at counts q + k) (nothing (bytes_eq q path)) ∙ no_more (count_at counts q))
      where
        zero_is : (n : ℕ) → (n == 0) ≡ true → n ≡ 0
        zero_is n e = eqb-true n 0 e
    by false e =
        ap (λ o. unwrap_or o 0) (map.get-insert nat_list_cmp_total counts path (count_at counts path + n) q)
        ∙ ap (λ b. unwrap_or (cond b (Some (count_at counts path + n)) (map.get counts q)) 0) (is_eq-slice_cmp q path)
        ∙ inner (bytes_eq q path) refl

get_after : (counts : TextMap ℕ) (path q : List ℕ) (n : ℕ) → q ≢ path → map.get (with_count counts path n) q ≡ map.get counts q
get_after counts path q n other = by (n == 0)
  where
    inner : (b : Bool) → bytes_eq q path ≡ b → cond b (Some (count_at counts path + n)) (map.get counts q) ≡ map.get counts q
    inner true e = absurd (other (same_bytes q path e))
    inner false e = refl

    by : (b : Bool) → map.get (if b then counts else map.insert counts path (count_at counts path + n)) q ≡ map.get counts q
    by true = refl
    by false =
        map.get-insert nat_list_cmp_total counts path (count_at counts path + n) q
        ∙ ap (λ b. cond b (Some (count_at counts path + n)) (map.get counts q)) (is_eq-slice_cmp q path)
        ∙ inner (bytes_eq q path) refl

some_after : (counts : TextMap ℕ) (path q : List ℕ) (n : ℕ) → map.get counts q ≢ Some 0 → map.get (with_count counts path n) q ≢ Some 0
some_after counts path q n some = by (n == 0) refl
  where
    positive : (m n : ℕ) → (n == 0) ≡ false → m + n ≡ 0 → ⊥
    positive m zero e is = both_ways true e refl
    positive m (suc n) e is = absurd (omega (arith, is))

    inner : (n == 0) ≡ false → (b : Bool) → cond b (Some (count_at counts path + n)) (map.get counts q) ≡ Some 0 → ⊥
    inner e true is = positive (count_at counts path) n e (some_is (count_at counts path + n) 0 is)
    inner e false is = some is

    by : (b : Bool) → (n == 0) ≡ b
        → map.get (if b then counts else map.insert counts path (count_at counts path + n)) q ≢ Some 0
    by true e = some
    by false e = λ is.
        inner e (eq_by_cmp (slice_cmp nat_cmp) q path)
        (sym (map.get-insert nat_list_cmp_total counts path (count_at counts path + n) q) ∙ is)

module _ (slots : List (Option (Held PageLinks))) (goals : List ℕ → Option (List ℕ)) where
  -- the number of a slot, and what a slot has more
  abbrev more_at : ℕ → ℕ → ℕ → ℕ
  more_at slot n i = cond (same_number i slot) n 0

  empty_more : (number : ℕ → ℕ) (tally : TextMap ℕ) (slot n : ℕ) → slot_at slots slot ≡ None → IsTally slots goals number tally
      → IsTally slots goals (λ i. number i + more_at slot n i) tally
  empty_more number tally slot n none is = record {
    counts = λ i page at. is.counts i page at ∙ ap (if_seen goals page.path) (by i page at (same_number i slot) refl);
    known = is.known;
    some = is.some;
  }
    where
      by : (i : ℕ) (page : Held PageLinks) → slot_at slots i ≡ Some page → (b : Bool) → same_number i slot ≡ b
          → number i ≡ number i + cond b n 0
      by i page at true e = absurd (not_some page (sym none ∙ ap (slot_at slots) (sym (number_is i slot e)) ∙ at))
      by i page at false e = sym (no_more (number i))

  module _ (single : AreSingle slots) where
    hidden_more : (number : ℕ → ℕ) (tally : TextMap ℕ) (slot n : ℕ) (page : Held PageLinks) → slot_at slots slot ≡ Some page
        → leads_to_itself (goals page.path) page.path ≡ false → IsTally slots goals number tally
        → IsTally slots goals (λ i. number i + more_at slot n i) tally
    hidden_more number tally slot n page there hidden is = record {
      counts = λ i other at. is.counts i other at ∙ by i other at (same_number i slot) refl;
      known = is.known;
      some = is.some;
    }
      where
        by : (i : ℕ) (other : Held PageLinks) → slot_at slots i ≡ Some other → (b : Bool) → same_number i slot ≡ b
            → if_seen goals other.path (number i) ≡ if_seen goals other.path (number i + cond b n 0)
        by i other at true e =
            let same : other ≡ page = some_is other page (sym at ∙ ap (slot_at slots) (number_is i slot e) ∙ there) in
            let none : leads_to_itself (goals other.path) other.path ≡ false =
            ap (λ (p : Held PageLinks). leads_to_itself (goals p.path) p.path) same ∙ hidden in
            ap (λ b. cond b (number i) 0) none ∙ sym (ap (λ b. cond b (number i + n) 0) none)
        by i other at false e = ap (if_seen goals other.path) (sym (no_more (number i)))

    seen_more : (number : ℕ → ℕ) (tally : TextMap ℕ) (slot n : ℕ) (page : Held PageLinks) → slot_at slots slot ≡ Some page
        → leads_to_itself (goals page.path) page.path ≡ true → IsTally slots goals number tally
        → IsTally slots goals (λ i. number i + more_at slot n i) (with_count tally page.path n)
    seen_more number tally slot n page there seen is = record {
      counts = λ i other at.
          count_after tally page.path other.path n
          ∙ ap (λ k. k + cond (bytes_eq other.path page.path) n 0) (is.counts i other at)
          ∙ by i other at (same_number i slot) refl;
      known = λ path none. get_after tally page.path path n (λ e. none slot page there (sym e)) ∙ is.known path none;
      some = λ path. some_after tally page.path path n (is.some path);
    }
      where
        by : (i : ℕ) (other : Held PageLinks) → slot_at slots i ≡ Some other → (b : Bool) → same_number i slot ≡ b
            → if_seen goals other.path (number i) + cond (bytes_eq other.path page.path) n 0
            ≡ if_seen goals other.path (number i + cond b n 0)
        by i other at true e =
            let same : other ≡ page = some_is other page (sym at ∙ ap (slot_at slots) (number_is i slot e) ∙ there) in
            let sees : leads_to_itself (goals other.path) other.path ≡ true =
            ap (λ (p : Held PageLinks). leads_to_itself (goals p.path) p.path) same ∙ seen in
            ap₂ (λ a b. cond a (number i) 0 + cond b n 0) sees
            (ap (λ (p : Held PageLinks). bytes_eq p.path page.path) same ∙ bytes_itself page.path)
            ∙ sym (ap (λ b. cond b (number i + n) 0) sees)
        by i other at false e =
            ap (λ b. if_seen goals other.path (number i) + cond b n 0) (apart (bytes_eq other.path page.path) refl)
            ∙ no_more (if_seen goals other.path (number i)) ∙ ap (if_seen goals other.path) (sym (no_more (number i)))
          where
            apart : (b : Bool) → bytes_eq other.path page.path ≡ b → b ≡ false
            apart true same =
                absurd (both_ways (same_number i slot) e
                (ap (λ j. same_number j slot) (single i slot other page at there (same_bytes other.path page.path same))
                ∙ number_itself slot))
            apart false same = refl

    page_more : (number : ℕ → ℕ) (tally : TextMap ℕ) (slot n : ℕ) → IsTally slots goals number tally
        → IsTally slots goals (λ i. number i + more_at slot n i) (with_page goals tally (slot_at slots slot) n)
    page_more number tally slot n is = by (slot_at slots slot) refl
      where
        by : (o : Option (Held PageLinks)) → slot_at slots slot ≡ o
            → IsTally slots goals (λ i. number i + more_at slot n i) (with_page goals tally o n)
        by None e = empty_more number tally slot n e is
        by (Some page) e = which (leads_to_itself (goals page.path) page.path) refl
          where
            which : (b : Bool) → leads_to_itself (goals page.path) page.path ≡ b
                → IsTally slots goals (λ i. number i + more_at slot n i) (if b then with_count tally page.path n else tally)
            which true sees = seen_more number tally slot n page e sees is
            which false hides = hidden_more number tally slot n page e hides is

    abbrev row_at : List (ℕ × ℕ) → ℕ → ℕ
    row_at entries i = sum_by (λ e. more_at e.0 e.1 i) entries

    row_more : (number : ℕ → ℕ) (entries : List (ℕ × ℕ)) (tally : TextMap ℕ) → IsTally slots goals number tally
        → IsTally slots goals (λ i. number i + row_at entries i) (with_row slots goals tally entries)
    row_more number [] tally is = subst (λ f. IsTally slots goals f tally) (λ j i. sym (no_more (number i)) j) is
    row_more number (e ∷ entries) tally is =
        subst (λ f. IsTally slots goals f (with_row slots goals (with_page goals tally (slot_at slots e.0) e.1) entries))
        (λ j i. summed (number i) i j)
        (row_more (λ i. number i + more_at e.0 e.1 i) entries (with_page goals tally (slot_at slots e.0) e.1)
        (page_more number tally e.0 e.1 is))
      where
        grouped : (a b c d : ℕ) → d ≡ b + c → (a + b) + c ≡ a + d
        grouped a b c d e = omega (arith, e)

        summed : (n i : ℕ) → (n + more_at e.0 e.1 i) + row_at entries i ≡ n + row_at (e ∷ entries) i
        summed n i =
            grouped n (more_at e.0 e.1 i) (row_at entries i) (row_at (e ∷ entries) i) (sum_by-cons (λ f. more_at f.0 f.1 i) e entries)

    -- the entries of a row, each once
    row_sum : (entries : List (ℕ × ℕ)) → IsStrictlySortedBy nat_cmp (keys_of entries) → (i : ℕ)
        → row_at entries i ≡ unwrap_or (map.find nat_cmp i entries) 0
    unfolding IsStrictlySortedBy
    row_sum [] sorted i = refl
    row_sum (e ∷ entries) sorted i =
        sum_by-cons (λ f. more_at f.0 f.1 i) e entries ∙ ap (λ n. more_at e.0 e.1 i + n) (row_sum entries sorted.1 i)
        ∙ by (same_number i e.0) refl
      where
        by : (b : Bool) → same_number i e.0 ≡ b
            → cond b e.1 0 + unwrap_or (map.find nat_cmp i entries) 0 ≡ unwrap_or (cond b (Some e.1) (map.find nat_cmp i entries)) 0
        by true same =
            ap (λ o. e.1 + unwrap_or o 0)
            (ap (λ k. map.find nat_cmp k entries) (number_is i e.0 same) ∙ find_before nat_cmp e.0 entries sorted.0)
            ∙ no_more e.1
        by false same = zero-add (unwrap_or (map.find nat_cmp i entries) 0)

    -- the pages of the row of a path more
    pub row_written : (number : ℕ → ℕ) (tally : TextMap ℕ) (row : NumberMap ℕ) (name text : List ℕ) → text ≡ name
        → ((i : ℕ) → map.get row i ≡ count_in (slot_at slots i) text) → IsTally slots goals number tally
        → IsTally slots goals (λ i. number i + written_at slots name i) (with_row slots goals tally (map.entries row))
    row_written number tally row name text same are is =
        subst (λ f. IsTally slots goals f (with_row slots goals tally (map.entries row)))
        (λ j i. number i + counted i j) (row_more number (map.entries row) tally is)
      where
        counted : (i : ℕ) → row_at (map.entries row) i ≡ written_at slots name i
        counted i =
            row_sum (map.entries row) (sorted_is nat_cmp (map.entries row) (map.entries_sorted row)) i
            ∙ ap (λ o. unwrap_or o 0) (sym (map.get-entries row i) ∙ are i ∙ ap (count_in (slot_at slots i)) same)

  -- no page writes a path that has no row
  pub none_written : (number : ℕ → ℕ) (tally : TextMap ℕ) (name text : List ℕ) → text ≡ name
      → ((i : ℕ) → None ≡ count_in (slot_at slots i) text) → IsTally slots goals number tally
      → IsTally slots goals (λ i. number i + written_at slots name i) tally
  none_written number tally name text same are is =
      subst (λ f. IsTally slots goals f tally) (λ j i. counted i j) is
    where
      counted : (i : ℕ) → number i ≡ number i + written_at slots name i
      counted i =
          sym (ap (λ o. number i + unwrap_or o 0) (ap (count_in (slot_at slots i)) (sym same) ∙ sym (are i)) ∙ no_more (number i))

  pub none_tallied : IsTally slots goals (λ i. 0) map.empty
  none_tallied = record {
    counts = λ i page at. ap (λ o. unwrap_or o 0) (map.get-empty (slice_cmp nat_cmp) page.path)
        ∙ nothing (leads_to_itself (goals page.path) page.path);
    known = λ path none. map.get-empty (slice_cmp nat_cmp) path;
    some = λ path is. not_some 0 (sym (map.get-empty (slice_cmp nat_cmp) path) ∙ is);
  }
    where
      nothing : (b : Bool) → ◌≡◌ {A = ℕ} 0 (cond b 0 0)
      nothing true = refl
      nothing false = refl

  -- one path more
  pub name_tallied : {X : Type 0} (text : X → List ℕ) (names : List X) (n : ℕ) (name : X) (tally : TextMap ℕ) → n < length names
      → name ≡ get_or names n name
      → IsTally slots goals (λ i. sum_by (λ path. written_at slots path i) (mapped text (take n names)) + written_at slots (text name) i)
      tally
      → IsTally slots goals (λ i. sum_by (λ path. written_at slots path i) (mapped text (take (n + 1) names))) tally
  name_tallied text names n name tally low at is =
      subst (λ f. IsTally slots goals f tally) (λ j i. summed i j) is
    where
      mapped_sum : {X Y : Type 0} (f : Y → ℕ) (g : X → Y) (xs : List X) → sum_by f (mapped g xs) ≡ sum_by (λ x. f (g x)) xs
      mapped_sum f g [] = refl
      mapped_sum f g (x ∷ xs) =
          sum_by-cons f (g x) (mapped g xs) ∙ ap (λ k. f (g x) + k) (mapped_sum f g xs) ∙ sym (sum_by-cons (λ y. f (g y)) x xs)

      summed : (i : ℕ) → sum_by (λ path. written_at slots path i) (mapped text (take n names)) + written_at slots (text name) i
          ≡ sum_by (λ path. written_at slots path i) (mapped text (take (n + 1) names))
      summed i =
          ap (λ k. k + written_at slots (text name) i) (mapped_sum (λ path. written_at slots path i) text (take n names))
          ∙ sym (sum_by_push (λ x. written_at slots (text x) i) (take n names) name)
          ∙ ap (sum_by (λ x. written_at slots (text x) i)) (sym (take_more names n name low ∙ ap (λ x. take n names ++ x ∷ []) (sym at)))
          ∙ sym (mapped_sum (λ path. written_at slots path i) text (take (n + 1) names))

found_slot : (slots : List (Option (Held PageLinks))) (i : ℕ) (page : Held PageLinks) → slot_at slots i ≡ Some page
    → is_some (map.find pair_cmp (page.path, page.stamp) (entries_of slots)) ≡ true
found_slot [] i page at = absurd (not_some page at)
found_slot (None ∷ slots) zero page at = absurd (not_some page at)
found_slot (None ∷ slots) (suc i) page at = found_slot slots i page at
found_slot (Some first ∷ slots) zero page at =
    ap (λ b. is_some (cond b (Some (known first)) (map.find pair_cmp (page.path, page.stamp) (entries_of slots))))
    (ap (λ (p : Held PageLinks). same_pair (page.path, page.stamp) (p.path, p.stamp)) (some_is first page at)
    ∙ pair_itself (page.path, page.stamp))
found_slot (Some first ∷ slots) (suc i) page at =
    by (same_pair (page.path, page.stamp) (first.path, first.stamp)) (found_slot slots i page at)
  where
    by : (b : Bool) → is_some (map.find pair_cmp (page.path, page.stamp) (entries_of slots)) ≡ true
        → is_some (cond b (Some (known first)) (map.find pair_cmp (page.path, page.stamp) (entries_of slots))) ≡ true
    by true rest = refl
    by false rest = rest

-- where each path has one stamp at most, no two slots have pages with the same path
pub single_slots : (slots : List (Option (Held PageLinks))) → AreApart slots → IsOnce (without_counts slots) → AreSingle slots
single_slots slots apart once i j page other at also same =
    apart i j page other at also same (once page.path page.stamp other.stamp (key i page at)
    (ap (λ p. is_some (map.get (without_counts slots) (p, other.stamp))) same ∙ key j other also))
  where
    key : (k : ℕ) (one : Held PageLinks) → slot_at slots k ≡ Some one
        → is_some (map.get (without_counts slots) (one.path, one.stamp)) ≡ true
    key k one there =
        sym (has_key slots (one.path, one.stamp)) ∙ ap is_some (map.get-from_entries pairs_total (entries_of slots) (one.path, one.stamp))
        ∙ found_slot slots k one there
