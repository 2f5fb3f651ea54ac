-- The definitions on worked examples.
use Rattle.std.proofs.Common.{◌≡◌, ℕ, List, [], ◌∷◌, ◌++◌, ◌&&◌, Bool, not, T, codes, bytes_eq, is_some}
use Rattle.std.specs.Prelude.{map as mapped, Option, if◌then◌else◌}
use Rattle.std.specs.Cmp.Lexicographic.{slice_cmp}
use Rattle.std.specs.FinMap as map
use Rattle.std.specs.FinMap.Entries.{find, is_sorted}
use Rattle.std.specs.List.{filter, flat_map}
use Rattle.std.specs.Ordering.{nat_cmp}
use Rattle.doc_store_readers.specs.Pages.{Page}
use Rattle.doc_store_readers.specs.Sites.{Site}
use Rattle.doc_store.specs.Store.{set_page, remove_page, move_page}
use Rattle.doc_store.specs.declared.site_edit.SiteEdit.{SiteEdit}
use Rattle.doc_server_script.specs.Compactions.{made_along, same_pages, same_texts}
use Rattle.doc_server_reload.specs.Leads.{led}

-- ---- the definition on sites that are given as lists

abbrev Pages : Type 0
Pages = List (List ℕ × Page)

abbrev Aliases : Type 0
Aliases = List (List ℕ × List ℕ)

abbrev site_of : Pages → Aliases → Site
site_of pages aliases = record { pages = map.from_sorted pages; aliases = map.from_sorted aliases }

abbrev aliases_on : Aliases → List ℕ → List (List ℕ)
aliases_on aliases path = mapped (λ entry. entry.0) (filter (λ entry. bytes_eq entry.1 path) aliases)

-- the edits, from what stands under paths, the entries of both sites and their aliases
abbrev led_by : (List ℕ → Option Page) → (List ℕ → Option Page) → Pages → Aliases → Pages → Aliases → List SiteEdit
led_by found other pages aliases others names =
    let alike : List ℕ → Bool = λ path. same_texts (aliases_on aliases path) (aliases_on names path) in
    let so : List ℕ → Bool = λ path. (is_some (found path) && is_some (other path)) && alike path in
    mapped (λ entry. remove_page entry.0) (filter (λ entry. not (so entry.0)) pages)
    ++ flat_map (λ entry. if so entry.0 then set_page entry.0 entry.1 ∷ []
    else made_along entry.1 (aliases_on names entry.0 ++ entry.0 ∷ []))
    (filter (λ entry. not (same_pages (found entry.0) (other entry.0) && alike entry.0)) others)

on_lists : (pages : Pages) (aliases : Aliases) (others : Pages) (names : Aliases)
    → T (is_sorted (slice_cmp nat_cmp) pages) → T (is_sorted (slice_cmp nat_cmp) aliases)
    → T (is_sorted (slice_cmp nat_cmp) others) → T (is_sorted (slice_cmp nat_cmp) names)
    → led (site_of pages aliases) (site_of others names)
    ≡ led_by (λ path. find (slice_cmp nat_cmp) path pages) (λ path. find (slice_cmp nat_cmp) path others) pages aliases others names
unfolding led
on_lists pages aliases others names p a o n =
    λ i. led_by (λ path. map.get-from_sorted (slice_cmp nat_cmp) pages path p i)
    (λ path. map.get-from_sorted (slice_cmp nat_cmp) others path o i)
    (map.entries-from_sorted (slice_cmp nat_cmp) pages p i) (map.entries-from_sorted (slice_cmp nat_cmp) aliases a i)
    (map.entries-from_sorted (slice_cmp nat_cmp) others o i) (map.entries-from_sorted (slice_cmp nat_cmp) names n i)

-- ---- examples

abbrev one : Page
one = record { groups = []; text = codes "1" }

abbrev two : Page
two = record { groups = []; text = codes "2" }

-- where nothing has changed there is no edit
nothing_changed : led (site_of ((codes "a", one) ∷ []) []) (site_of ((codes "a", one) ∷ []) []) ≡ []
nothing_changed = on_lists ((codes "a", one) ∷ []) [] ((codes "a", one) ∷ []) [] tt tt tt tt

-- a page with another text is replaced where it stands; another one stays
another_text : led (site_of ((codes "a", one) ∷ (codes "b", two) ∷ []) []) (site_of ((codes "a", two) ∷ (codes "b", two) ∷ []) [])
    ≡ set_page (codes "a") two ∷ []
another_text = on_lists ((codes "a", one) ∷ (codes "b", two) ∷ []) [] ((codes "a", two) ∷ (codes "b", two) ∷ []) [] tt tt tt tt

-- it keeps an alias that leads to it in both
another_text_alone : led (site_of ((codes "b", one) ∷ []) ((codes "a", codes "b") ∷ []))
    (site_of ((codes "b", two) ∷ []) ((codes "a", codes "b") ∷ []))
    ≡ set_page (codes "b") two ∷ []
another_text_alone =
    on_lists ((codes "b", one) ∷ []) ((codes "a", codes "b") ∷ []) ((codes "b", two) ∷ []) ((codes "a", codes "b") ∷ []) tt tt tt tt

-- a page with one alias more is made anew
one_alias_more : led (site_of ((codes "b", one) ∷ []) []) (site_of ((codes "b", one) ∷ []) ((codes "a", codes "b") ∷ []))
    ≡ remove_page (codes "b") ∷ set_page (codes "a") one ∷ move_page (codes "a") (codes "b") ∷ []
one_alias_more = on_lists ((codes "b", one) ∷ []) [] ((codes "b", one) ∷ []) ((codes "a", codes "b") ∷ []) tt tt tt tt

-- so is one with an alias less
one_alias_less : led (site_of ((codes "b", one) ∷ []) ((codes "a", codes "b") ∷ [])) (site_of ((codes "b", one) ∷ []) [])
    ≡ remove_page (codes "b") ∷ set_page (codes "b") one ∷ []
one_alias_less = on_lists ((codes "b", one) ∷ []) ((codes "a", codes "b") ∷ []) ((codes "b", one) ∷ []) [] tt tt tt tt

-- a page more
one_page_more : led (site_of ((codes "a", one) ∷ []) []) (site_of ((codes "a", one) ∷ (codes "b", two) ∷ []) [])
    ≡ set_page (codes "b") two ∷ []
one_page_more = on_lists ((codes "a", one) ∷ []) [] ((codes "a", one) ∷ (codes "b", two) ∷ []) [] tt tt tt tt

-- a page less
one_page_less : led (site_of ((codes "a", one) ∷ (codes "b", two) ∷ []) []) (site_of ((codes "b", two) ∷ []) [])
    ≡ remove_page (codes "a") ∷ []
one_page_less = on_lists ((codes "a", one) ∷ (codes "b", two) ∷ []) [] ((codes "b", two) ∷ []) [] tt tt tt tt
