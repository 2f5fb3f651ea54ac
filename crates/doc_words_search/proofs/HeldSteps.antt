-- The words that are held, by what is held.
use Rattle.std.proofs.Common.{◌≡◌, ℕ, List, [], ◌∷◌, Bool, true, false, cond, refl, ap, sym, ◌∙◌}
use Rattle.std.proofs.Common.{Ordering, Less, Equal, Greater, is_some}
use Rattle.std.specs.Prelude.{Option, Some, None, option_map, map as mapped}
use Rattle.std.specs.FinMap as map
use Rattle.std.specs.FinMap.Entries.{by_order}
use Rattle.std.specs.Ordering.{eq_by_cmp}
use Rattle.std.proofs.lemmas.List.{nil_from_length}
use Rattle.doc_index.specs.declared.held.Held.{Held}
use Rattle.doc_index.specs.Held.{Known, counts_of, entries_of, held, slot_at}
use Rattle.doc_index_tables.specs.Maps.{TextMap, pair_cmp}
use Rattle.doc_index_tables.proofs.PairSteps.{pairs_exact, pairs_total}
use Rattle.doc_words_search.specs.Held.{counts_or_none, words_held}
use Rattle.doc_words_search.specs.Searches.{pages_of}
use Rattle.doc_words_search.specs.SearchSteps.{onto_page, pages_at}

pub no_entries : (X : Type 0) → map.entries (map.empty {X = X} {R = pair_cmp}) ≡ []
no_entries X =
    nil_from_length (map.entries (map.empty {X = X} {R = pair_cmp}))
    (sym (map.len-entries (map.empty {X = X} {R = pair_cmp})) ∙ map.len-empty pair_cmp X)

abbrev pub page_of : (List ℕ × ℕ) × TextMap ℕ → List ℕ × TextMap ℕ
page_of e = (e.0.0, e.1)

module _ {T : Type 0} where
  abbrev counts_in : Known T → TextMap ℕ
  counts_in page = page.counts

  abbrev pub entry_in : (List ℕ × ℕ) × Known T → (List ℕ × ℕ) × TextMap ℕ
  entry_in e = (e.0, e.1.counts)

  found_words : (q : List ℕ × ℕ) (es : List ((List ℕ × ℕ) × Known T))
      → map.find pair_cmp q (mapped entry_in es) ≡ option_map counts_in (map.find pair_cmp q es)
  found_words q [] = refl
  found_words q (e ∷ es) = ap (cond (eq_by_cmp pair_cmp q e.0) (Some e.1.counts)) (found_words q es) ∙ by (eq_by_cmp pair_cmp q e.0)
    where
      by : (b : Bool) → cond b (Some e.1.counts) (option_map counts_in (map.find pair_cmp q es))
          ≡ option_map counts_in (cond b (Some e.1) (map.find pair_cmp q es))
      by true = refl
      by false = refl

  pub words_at : (slots : List (Option (Held T))) (q : List ℕ × ℕ)
      → map.get (words_held slots) q ≡ option_map counts_in (map.get (held slots) q)
  words_at slots q =
      map.get-from_entries pairs_total (mapped entry_in (entries_of slots)) q ∙ found_words q (entries_of slots)
      ∙ ap (option_map counts_in) (sym (map.get-from_entries pairs_total (entries_of slots) q))

  -- what comes under a pair, and what goes
  pub words_inserted : (old new : List (Option (Held T))) (k : List ℕ × ℕ) (page : Known T) → held new ≡ map.insert (held old) k page
      → words_held new ≡ map.insert (words_held old) k page.counts
  words_inserted old new k page e = map.same_map pairs_total pairs_exact (words_held new) (map.insert (words_held old) k page.counts) (λ q.
      words_at new q ∙ ap (λ m. option_map counts_in (map.get m q)) e
      ∙ ap (option_map counts_in) (map.get-insert pairs_total (held old) k page q)
      ∙ by (eq_by_cmp pair_cmp q k) (map.get (held old) q)
      ∙ ap (cond (eq_by_cmp pair_cmp q k) (Some page.counts)) (sym (words_at old q))
      ∙ sym (map.get-insert pairs_total (words_held old) k page.counts q))
    where
      by : (b : Bool) (o : Option (Known T))
          → option_map counts_in (cond b (Some page) o) ≡ cond b (Some page.counts) (option_map counts_in o)
      by true o = refl
      by false o = refl

  pub words_removed : (old new : List (Option (Held T))) (k : List ℕ × ℕ) → held new ≡ map.remove (held old) k
      → words_held new ≡ map.remove (words_held old) k
  words_removed old new k e = map.same_map pairs_total pairs_exact (words_held new) (map.remove (words_held old) k) (λ q.
      words_at new q ∙ ap (λ m. option_map counts_in (map.get m q)) e
      ∙ ap (option_map counts_in) (map.get-remove pairs_total (held old) k q)
      ∙ by (eq_by_cmp pair_cmp q k) (map.get (held old) q)
      ∙ ap (cond (eq_by_cmp pair_cmp q k) None) (sym (words_at old q))
      ∙ sym (map.get-remove pairs_total (words_held old) k q))
    where
      by : (b : Bool) (o : Option (Known T)) → option_map counts_in (cond b None o) ≡ cond b None (option_map counts_in o)
      by true o = refl
      by false o = refl

  -- where no words are held, no page is
  pub none_held : (slots : List (Option (Held T))) (q : List ℕ × ℕ) → map.get (words_held slots) q ≡ None → map.get (held slots) q ≡ None
  none_held slots q e = by (map.get (held slots) q) (sym (words_at slots q) ∙ e)
    where
      by : (o : Option (Known T)) → option_map counts_in o ≡ None → o ≡ None
      by None e = refl
      by (Some x) e = cc

  pub is_held : (slots : List (Option (Held T))) (q : List ℕ × ℕ)
      → map.contains_key (held slots) q ≡ map.contains_key (words_held slots) q
  is_held slots q = by (map.get (held slots) q) ∙ ap is_some (sym (words_at slots q))
    where
      by : (o : Option (Known T)) → is_some o ≡ is_some (option_map counts_in o)
      by None = refl
      by (Some x) = refl

  pub counts_held : (slots : List (Option (Held T))) (q : List ℕ × ℕ)
      → counts_of (map.get (held slots) q) ≡ counts_or_none (map.get (words_held slots) q)
  counts_held slots q = by (map.get (held slots) q) ∙ ap counts_or_none (sym (words_at slots q))
    where
      by : (o : Option (Known T)) → counts_of o ≡ counts_or_none (option_map counts_in o)
      by None = refl
      by (Some x) = refl

  put_mapped : (k : List ℕ × ℕ) (v : Known T) (es : List ((List ℕ × ℕ) × Known T))
      → map.put pair_cmp k v.counts (mapped entry_in es) ≡ mapped entry_in (map.put pair_cmp k v es)
  put_mapped k v [] = refl
  put_mapped k v (e ∷ es) = by (pair_cmp k e.0) (put_mapped k v es)
    where
      by : (o : Ordering) → map.put pair_cmp k v.counts (mapped entry_in es) ≡ mapped entry_in (map.put pair_cmp k v es)
          → by_order o ((k, v.counts) ∷ entry_in e ∷ mapped entry_in es) ((e.0, v.counts) ∷ mapped entry_in es)
          (entry_in e ∷ map.put pair_cmp k v.counts (mapped entry_in es))
          ≡ mapped entry_in (by_order o ((k, v) ∷ e ∷ es) ((e.0, v) ∷ es) (e ∷ map.put pair_cmp k v es))
      by Less ih = refl
      by Equal ih = refl
      by Greater ih = ap (λ fs. entry_in e ∷ fs) ih

  entries_mapped : (es : List ((List ℕ × ℕ) × Known T))
      → map.entries (map.from_entries {R = pair_cmp} (mapped entry_in es))
      ≡ mapped entry_in (map.entries (map.from_entries {R = pair_cmp} es))
  entries_mapped [] = no_entries (TextMap ℕ) ∙ ap (mapped entry_in) (sym (no_entries (Known T)))
  entries_mapped (e ∷ es) =
      map.entries-insert pairs_total (map.from_entries {R = pair_cmp} (mapped entry_in es)) e.0 e.1.counts
      ∙ ap (map.put pair_cmp e.0 e.1.counts) (entries_mapped es)
      ∙ put_mapped e.0 e.1 (map.entries (map.from_entries {R = pair_cmp} es))
      ∙ ap (mapped entry_in) (sym (map.entries-insert pairs_total (map.from_entries {R = pair_cmp} es) e.0 e.1))

  listed : (slots : List (Option (Held T))) (ns : List ℕ)
      → mapped page_of (mapped entry_in (entries_of (mapped (slot_at slots) ns))) ≡ pages_at slots ns
  listed slots [] = refl
  listed slots (n ∷ ns) = by (slot_at slots n) (listed slots ns)
    where
      by : (o : Option (Held T)) → mapped page_of (mapped entry_in (entries_of (mapped (slot_at slots) ns))) ≡ pages_at slots ns
          → mapped page_of (mapped entry_in (entries_of (o ∷ mapped (slot_at slots) ns))) ≡ onto_page o (pages_at slots ns)
      by None ih = ih
      by (Some page) ih = ap (λ pages. (page.path, page.counts) ∷ pages) ih

  -- the pages in the order of what is held
  pub pages_in_order : (slots : List (Option (Held T))) (ns : List ℕ)
      → entries_of (mapped (slot_at slots) ns) ≡ map.entries (held slots) → pages_of (words_held slots) ≡ pages_at slots ns
  pages_in_order slots ns e =
      ap (mapped page_of) (entries_mapped (entries_of slots) ∙ ap (mapped entry_in) (sym e)) ∙ listed slots ns
