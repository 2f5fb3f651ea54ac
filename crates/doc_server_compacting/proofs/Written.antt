-- What was written of a compaction is restored.
use Rattle.std.proofs.Common.{◌≡◌, ◌⊎◌, inl, inr, ◌≤◌, ◌+◌, ℕ, List, [], ◌∷◌, ◌++◌, Bool, true, false, cond, not, bytes_eq, length, arith, sym, subst, ◌∙◌, IfSome}
use Rattle.std.specs.Prelude.{All, map as mapped, Option, Some, None}
use Rattle.std.specs.FinMap as map
use Rattle.std.specs.FinMap.Entries.{find}
use Rattle.std.specs.Cmp.Lexicographic.{slice_cmp}
use Rattle.std.specs.Ordering.{nat_cmp}
use Rattle.doc_store_readers.proofs.KeySteps.{not_none, same_key, some_is}
use Rattle.std.specs.List.{AllByRecursion, filter, flat_map}
use Rattle.std.proofs.lemmas.List.Elements.{All-filter, recursion_from_All}
use Rattle.doc_store_readers.specs.Maps.{TextMap}
use Rattle.doc_store_readers.specs.Pages.{Page}
use Rattle.doc_store_readers.specs.Sites.{Site}
use Rattle.doc_store.specs.Names.{aliases_of}
use Rattle.doc_store.specs.Store.{StoreState, put_limit, remove_page, text_limit}
use Rattle.doc_store.specs.declared.site_edit.SiteEdit.{SiteEdit}
use Rattle.doc_server_script.specs.Compactions.{compacted, made, made_along, moves, other_pages, same_at}
use Rattle.doc_server_script.specs.Laws.{IsPathText}
use Rattle.doc_server_journal.specs.declared.journal.Journal.{Journal}
use Rattle.doc_server_restore.specs.Laws.{AreEdits, CompactionIsRestored}
use Rattle.doc_server_restore.specs.Written.{IsWritten}
use Rattle.doc_server_journal.specs.Journals.{Holds, IsOpen}
use Rattle.doc_server_journal_records.specs.Readings.{ReadsAs}
use Rattle.doc_server_compacting.specs.Compactings.{GiveSite, HoldsSite, IsJournalTo, IsOfEdits, IsPageOfEdits, LeadThere}
use Rattle.doc_server_compacting.proofs.EditSizes.{edits_fit}

-- ---- the edits of a compaction are edits as calls take them

both : (edits more : List SiteEdit) → AreEdits edits → AreEdits more → AreEdits (edits ++ more)
both [] more are others = others
both (edit ∷ edits) more are others = (are.0, both edits more are.1 others)

abbrev OfPages : List (List ℕ × Page) → Type 0
OfPages entries = AllByRecursion (λ entry. IsPageOfEdits entry.0 entry.1) entries

removals_are : (entries : List (List ℕ × Page)) → OfPages entries → AreEdits (mapped (λ entry. remove_page entry.0) entries)
removals_are [] of = tt
removals_are (entry ∷ entries) of = (of.0.path_text, removals_are entries of.1)

moves_are : (from : List ℕ) (names : List (List ℕ)) → IsPathText from → AllByRecursion IsPathText names → AreEdits (moves from names)
moves_are from [] first of = tt
moves_are from (to ∷ names) first of = ((first, of.0), moves_are to names of.0 of.1)

along : (page : Page) (path : List ℕ) (names : List (List ℕ)) → IsPageOfEdits path page → AllByRecursion IsPathText names
    → AreEdits (made_along page names)
along page path [] is of = tt
along page path (first ∷ names) is of = ((of.0, is.groups, is.text), moves_are first names of.0 of.1)

-- names, and one behind them
and_last : (names : List (List ℕ)) (last : List ℕ) → AllByRecursion IsPathText names → IsPathText last
    → AllByRecursion IsPathText (names ++ last ∷ [])
and_last [] last of is = (is, tt)
and_last (name ∷ names) last of is = (of.0, and_last names last of.1 is)

keys : (entries : List (List ℕ × List ℕ)) → AllByRecursion (λ entry. IsPathText entry.0) entries
    → AllByRecursion IsPathText (mapped (λ entry. entry.0) entries)
keys [] of = tt
keys (entry ∷ entries) of = (of.0, keys entries of.1)

aliases_are : (aliases : TextMap (List ℕ)) (path : List ℕ) → All (λ entry. IsPathText entry.0) (map.entries aliases)
    → AllByRecursion IsPathText (aliases_of aliases path)
aliases_are aliases path of =
    keys (filter (λ entry. bytes_eq entry.1 path) (map.entries aliases))
    (recursion_from_All (λ entry. IsPathText entry.0) (filter (λ entry. bytes_eq entry.1 path) (map.entries aliases))
    (All-filter (λ entry. bytes_eq entry.1 path) (λ entry. IsPathText entry.0) (map.entries aliases) of))

made_are : (site : Site) (entries : List (List ℕ × Page)) → IsOfEdits site → OfPages entries → AreEdits (flat_map (made site) entries)
made_are site [] is of = tt
made_are site (entry ∷ entries) is of =
    both (made site entry) (flat_map (made site) entries)
    (along entry.1 entry.0 (aliases_of site.aliases entry.0 ++ entry.0 ∷ []) of.0
    (and_last (aliases_of site.aliases entry.0) entry.0 (aliases_are site.aliases entry.0 is.aliases) of.0.path_text))
    (made_are site entries is of.1)

others_are : (config site from : Site) → IsOfEdits from → OfPages (other_pages config site from.pages)
others_are config site from is =
    recursion_from_All (λ entry. IsPageOfEdits entry.0 entry.1) (other_pages config site from.pages)
    (All-filter (λ entry. not (same_at config site entry.0)) (λ entry. IsPageOfEdits entry.0 entry.1) (map.entries from.pages) is.pages)

compacted_are : (config site : Site) → IsOfEdits config → IsOfEdits site → AreEdits (compacted config site)
unfolding compacted
compacted_are config site is_config is_site =
    both (mapped (λ entry. remove_page entry.0) (other_pages config site config.pages))
    (flat_map (made site) (other_pages config site site.pages))
    (removals_are (other_pages config site config.pages) (others_are config site config is_config))
    (made_are site (other_pages config site site.pages) is_site (others_are config site site is_site))

-- ---- a site of edits fits a store

found_fits : (path : List ℕ) (page : Page) (entries : List (List ℕ × Page)) → OfPages entries
    → find (slice_cmp nat_cmp) path entries ≡ Some page → length page.text ≤ text_limit
found_fits path page [] of at = absurd (not_none page at)
found_fits path page (entry ∷ entries) of at = by (same_key path entry.0) at (λ later. found_fits path page entries of.1 later)
  where
    by : (b : Bool) → cond b (Some entry.1) (find (slice_cmp nat_cmp) path entries) ≡ Some page
        → (find (slice_cmp nat_cmp) path entries ≡ Some page → length page.text ≤ text_limit) → length page.text ≤ text_limit
    by true at rest = subst (λ (p : Page). length p.text ≤ text_limit) (some_is entry.1 page at) of.0.within
    by false at rest = rest at

text_fits : (site : Site) (path : List ℕ) (page : Page) → IsOfEdits site → map.get site.pages path ≡ Some page
    → length page.text ≤ text_limit
text_fits site path page is at =
    found_fits path page (map.entries site.pages)
    (recursion_from_All (λ entry. IsPageOfEdits entry.0 entry.1) (map.entries site.pages) is.pages)
    (sym (map.get-entries site.pages path) ∙ at)

-- ---- a journal that was written

pub written_gives : {D : Type 0} (seen : D → Option (List ℕ)) (may_leave : D → List ℕ → Type 0) (failed : D → Bool)
    (stale : D → ℕ → Type 0) (journal : Journal D) (config : StoreState) (site : Site) → CompactionIsRestored
    → (is : IsWritten seen may_leave failed stale journal (compacted config.site site)) → config.puts + journal.end ≤ put_limit
    → IsOfEdits config.site → IsOfEdits site → GiveSite is.records config site
written_gives seen may_leave failed stale journal config site law is stamps is_config is_site =
    law config site is.records is_config.is_site is_site.is_site (record {
      pages = is_site.few_pages;
      aliases = is_site.few_aliases;
      texts = λ path page at. text_fits site path page is_site at;
      puts = omega (
        arith,
        stamps,
        edits_fit seen may_leave failed stale journal is.records (compacted config.site site) is.is_open is.lines,
      );
    }) (compacted_are config.site site is_config is_site) is.lines

-- what is known of the file of an open journal reads as its records
reads : {D : Type 0} (seen : D → Option (List ℕ)) (may_leave : D → List ℕ → Type 0) (failed : D → Bool) (stale : D → ℕ → Type 0)
    (journal : Journal D) (texts : List (List ℕ)) (known : Option (List ℕ)) → (is : IsOpen seen may_leave failed stale journal texts)
    → IfSome known (λ file. Holds is.identity is.entries file) → IfSome known (λ file. ReadsAs file texts)
reads seen may_leave failed stale journal texts None is file = tt
reads seen may_leave failed stale journal texts (Some bytes) is (tail, is_tail, split) = record {
  identity = is.identity;
  entries = is.entries;
  tail = tail;
  records = record { is_identity = is.is_identity; are_entries = is.are_entries; split = split };
  is_tail = is_tail;
  texts_are = is.texts_are;
}

-- and is a journal of them
pub holds : {D : Type 0} (seen : D → Option (List ℕ)) (may_leave : D → List ℕ → Type 0) (failed : D → Bool) (stale : D → ℕ → Type 0)
    (journal : Journal D) (texts : List (List ℕ)) (config : StoreState) (site : Site) → IsOpen seen may_leave failed stale journal texts
    → LeadThere config site texts → HoldsSite (seen journal.device) config site
holds seen may_leave failed stale journal texts config site is leads =
    by (seen journal.device) (reads seen may_leave failed stale journal texts (seen journal.device) is is.file)
  where
    by : (known : Option (List ℕ)) → IfSome known (λ file. ReadsAs file texts) → IfSome known (IsJournalTo config site)
    by None file = tt
    by (Some bytes) file = (texts, file, leads)

-- whether the file took the name or not
pub either : (before old new seen : Option (List ℕ)) (config : StoreState) (site : Site) → old ≡ before → HoldsSite seen config site
    → (new ≡ old) ⊎ (new ≡ seen) → (new ≡ before) ⊎ HoldsSite new config site
either before old new seen config site rests holds (inl same) = inl (same ∙ rests)
either before old new seen config site rests holds (inr taken) = inr (subst (λ known. HoldsSite known config site) (sym taken) holds)
