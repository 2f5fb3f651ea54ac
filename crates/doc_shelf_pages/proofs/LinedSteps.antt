-- Renderings that are held with the lines that contents have of their pages.
use Rattle.std.proofs.Common.{◌≡◌, ℕ, ◌+◌, ◌<◌, List, [], ◌∷◌, ◌++◌, Bool, true, false, cond, drop, get_or, length, append-nil, refl, ap}
use Rattle.std.proofs.Common.{sym, subst, ◌∙◌}
use Rattle.std.proofs.lemmas.List.{drop_more}
use Rattle.std.specs.Prelude.{Option, Some, None, Result, Ok, Err, OnOk, OnErr, map as mapped}
use Rattle.std.specs.FinMap as map
use Rattle.std.specs.List.{AllByRecursion}
use Rattle.doc_index.specs.declared.held.Held.{Held}
use Rattle.doc_index.specs.Held.{Known, entries_of, held, known_as, slot_at}
use Rattle.doc_index.proofs.HeldSteps.{not_some, some_is}
use Rattle.doc_index_tables.specs.Maps.{PairMap, TextMap, pair_cmp}
use Rattle.doc_index_tables.proofs.EntrySteps.{each_found}
use Rattle.doc_index_tables.proofs.PairSteps.{pair_is, pairs_exact, pairs_total, same_pair}
use Rattle.doc_links.proofs.MapSteps.{entries_with}
use Rattle.doc_page_parts.proofs.Maps.{is_sorted_keys}
use Rattle.doc_page_parts.specs.declared.rendered.Rendered.{Rendered}
use Rattle.doc_shelf_pages.specs.Held.{by_path}
use Rattle.doc_shelf_pages.specs.RenderingSteps.{AreLined, flagged, flagged_lines, lined, lines_at, renderings_in}
use Rattle.doc_shelf_pages.specs.declared.lined.Lined.{Lined}

pub lined_none : AreLined []
lined_none k page at = absurd (not_some page (sym (map.get-empty pair_cmp k) ∙ at))

module _ (old new : List (Option (Held Lined))) (k : List ℕ × ℕ) (are : AreLined old) where
  lined_added : (page : Known Lined) → page.value ≡ lined k.0 page.value.page → held new ≡ map.insert (held old) k page → AreLined new
  lined_added page has is q other at =
      by (same_pair q k) refl (sym (ap (λ m. map.get m q) is ∙ map.get-insert pairs_total (held old) k page q) ∙ at)
    where
      by : (b : Bool) → same_pair q k ≡ b → cond b (Some page) (map.get (held old) q) ≡ Some other
          → other.value ≡ lined q.0 other.value.page
      by true same e =
          subst (λ (p : Known Lined). p.value ≡ lined q.0 p.value.page) (some_is page other e)
          (has ∙ ap (λ (r : List ℕ × ℕ). lined r.0 page.value.page) (sym (pair_is q k same)))
      by false apart e = are q other e

  pub lined_removed : held new ≡ map.remove (held old) k → AreLined new
  lined_removed is q other at =
      by (same_pair q k) (sym (ap (λ m. map.get m q) is ∙ map.get-remove pairs_total (held old) k q) ∙ at)
    where
      by : (b : Bool) → cond b None (map.get (held old) q) ≡ Some other → other.value ≡ lined q.0 other.value.page
      by true e = absurd (not_some other e)
      by false e = are q other e

  pub lined_after : {E : Type 0} (r : Result (Unit {0}) E) (value : Lined) (page : Rendered) (counts : TextMap ℕ) → value ≡ lined k.0 page
      → OnOk r (held new ≡ map.insert (held old) k (known_as value counts)) → OnErr r (new ≡ old) → AreLined new
  lined_after (Ok x) value page counts is ok err =
      lined_added (known_as value counts) (is ∙ ap (lined k.0) (sym (ap (λ (it : Lined). it.page) is))) ok
  lined_after (Err e) value page counts is ok err = subst AreLined (sym err) are

-- ---- the lines of pages with flags

abbrev Entry : Type 0
Entry = (List ℕ × ℕ) × Known Lined

abbrev page_of : Entry → List ℕ × Rendered
page_of e = (e.0.0, e.1.value.page)

-- the lines that are held are those of the pages that are held
lines_are : (flags : List Bool) (es : List Entry) → AllByRecursion (λ e. e.1.value ≡ lined e.0.0 e.1.value.page) es
    → flagged_lines flags es ≡ mapped lines_at (flagged flags (mapped page_of es))
lines_are [] es all = refl
lines_are (flag ∷ flags) [] all = refl
lines_are (true ∷ flags) (e ∷ es) all =
    λ i. (all.0 i).lines ∷ lines_are flags es all.1 i
lines_are (false ∷ flags) (e ∷ es) all = lines_are flags es all.1

each_lined : (slots : List (Option (Held Lined))) → AreLined slots → (es : List Entry)
    → AllByRecursion (λ e. map.find pair_cmp e.0 (map.entries (held slots)) ≡ Some e.1) es
    → AllByRecursion (λ e. e.1.value ≡ lined e.0.0 e.1.value.page) es
each_lined slots are [] found = tt
each_lined slots are (e ∷ es) found = (
  are e.0 e.1 (map.get-entries (held slots) e.0 ∙ found.0),
  each_lined slots are es found.1,
)

twice : (es : List Entry)
    → mapped (λ (e : (List ℕ × ℕ) × Rendered). (e.0.0, e.1)) (mapped (λ (e : Entry). (e.0, e.1.value.page)) es) ≡ mapped page_of es
twice [] = refl
twice (e ∷ es) = ap (λ xs. page_of e ∷ xs) (twice es)

-- the lines of what is held
pub lines_of_held : (slots : List (Option (Held Lined))) → AreLined slots → (flags : List Bool)
    → flagged_lines flags (map.entries (held slots)) ≡ mapped lines_at (flagged flags (by_path (renderings_in slots)))
lines_of_held slots are flags =
    let es = map.entries (held slots) in
    let found = each_found pair_cmp pairs_total es (is_sorted_keys pair_cmp es (map.entries_sorted (held slots))) in
    lines_are flags es (each_lined slots are es found)
    ∙ ap (λ pages. mapped lines_at (flagged flags pages)) (sym (ap (mapped (λ e. (e.0.0, e.1)))
    (entries_with pairs_total pairs_exact (λ (page : Known Lined). page.value.page) (held slots)) ∙ twice es))

-- lines that were written of these pages
pub lines_told : (slots : List (Option (Held Lined))) (m : PairMap Rendered) → AreLined slots → renderings_in slots ≡ m
    → (flags : List Bool) (es : List Entry) → es ≡ map.entries (held slots) → (lines : List (List ℕ)) → lines ≡ flagged_lines flags es
    → lines ≡ mapped lines_at (flagged flags (by_path m))
lines_told slots m are view flags es all lines is =
    is ∙ ap (flagged_lines flags) all ∙ lines_of_held slots are flags ∙ ap (λ n. mapped lines_at (flagged flags (by_path n))) view

-- ---- slots, one after another

nothing_flagged : (flags : List Bool) → flagged_lines flags [] ≡ []
nothing_flagged [] = refl
nothing_flagged (flag ∷ flags) = refl

module _ (slots : List (Option (Held Lined))) (numbers : List ℕ) (i : ℕ) where
  abbrev left_of : ℕ → List Bool → List (List ℕ)
  left_of n flags = flagged_lines flags (entries_of (mapped (slot_at slots) (drop n numbers)))

  -- behind one slot more
  pub slot_more : (lines new all : List (List ℕ)) (flags left : List Bool) → i < length numbers
      → new ++ left_of (i + 1) left
      ≡ lines ++ flagged_lines flags (entries_of (slot_at slots (get_or numbers i 0) ∷ mapped (slot_at slots) (drop (i + 1) numbers)))
      → lines ++ left_of i flags ≡ all → new ++ left_of (i + 1) left ≡ all
  slot_more lines new all flags left within step before =
      step
      ∙ ap (λ ns. lines ++ flagged_lines flags (entries_of (mapped (slot_at slots) ns))) (sym (drop_more numbers i 0 within))
      ∙ before

  -- behind the last one
  pub slots_end : (lines all : List (List ℕ)) (flags : List Bool) → drop i numbers ≡ [] → lines ++ left_of i flags ≡ all → lines ≡ all
  slots_end lines all flags none before =
      sym (append-nil lines)
      ∙ ap (λ more. lines ++ more) (sym (nothing_flagged flags))
      ∙ ap (λ ns. lines ++ flagged_lines flags (entries_of (mapped (slot_at slots) ns))) (sym none)
      ∙ before
