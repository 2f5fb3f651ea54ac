-- The definitions on worked examples.
use Rattle.std.proofs.Common.{◌≡◌, ℕ, List, [], ◌∷◌, ◌++◌, ◌&&◌, Bool, not, T, codes, bytes_eq}
use Rattle.std.specs.Prelude.{map as mapped, Option}
use Rattle.std.specs.Cmp.Lexicographic.{slice_cmp}
use Rattle.std.specs.FinMap as map
use Rattle.std.specs.FinMap.Entries.{find, is_sorted}
use Rattle.std.specs.List.{filter, flat_map}
use Rattle.std.specs.Ordering.{nat_cmp}
use Rattle.doc_store_readers.specs.Pages.{Page}
use Rattle.doc_store_readers.specs.Sites.{Site}
use Rattle.doc_store.specs.Store.{set_page, remove_page, move_page}
use Rattle.doc_store.specs.declared.site_edit.SiteEdit.{SiteEdit}
use Rattle.doc_server_script.specs.Compactions.{compacted, made_along, same_pages, same_texts}

-- ---- the definition on sites that are given as lists

abbrev Pages : Type 0
Pages = List (List ℕ × Page)

abbrev Aliases : Type 0
Aliases = List (List ℕ × List ℕ)

abbrev site_of : Pages → Aliases → Site
site_of pages aliases = record { pages = map.from_sorted pages; aliases = map.from_sorted aliases }

abbrev aliases_on : Aliases → List ℕ → List (List ℕ)
aliases_on aliases path = mapped (λ entry. entry.0) (filter (λ entry. bytes_eq entry.1 path) aliases)

-- the edits, from what stands under paths, the entries of both sites and their aliases
abbrev compacted_by : (List ℕ → Option Page) → (List ℕ → Option Page) → Pages → Aliases → Pages → Aliases → List SiteEdit
compacted_by found other pages aliases others names =
    let changed : List ℕ × Page → Bool = λ entry.
    not (same_pages (found entry.0) (other entry.0) && same_texts (aliases_on aliases entry.0) (aliases_on names entry.0)) in
    mapped (λ entry. remove_page entry.0) (filter changed pages)
    ++ flat_map (λ entry. made_along entry.1 (aliases_on names entry.0 ++ entry.0 ∷ [])) (filter changed others)

on_lists : (pages : Pages) (aliases : Aliases) (others : Pages) (names : Aliases)
    → T (is_sorted (slice_cmp nat_cmp) pages) → T (is_sorted (slice_cmp nat_cmp) aliases)
    → T (is_sorted (slice_cmp nat_cmp) others) → T (is_sorted (slice_cmp nat_cmp) names)
    → compacted (site_of pages aliases) (site_of others names)
    ≡ compacted_by (λ path. find (slice_cmp nat_cmp) path pages) (λ path. find (slice_cmp nat_cmp) path others) pages aliases others names
unfolding compacted
on_lists pages aliases others names p a o n =
    λ i. compacted_by (λ path. map.get-from_sorted (slice_cmp nat_cmp) pages path p i)
    (λ path. map.get-from_sorted (slice_cmp nat_cmp) others path o i)
    (map.entries-from_sorted (slice_cmp nat_cmp) pages p i) (map.entries-from_sorted (slice_cmp nat_cmp) aliases a i)
    (map.entries-from_sorted (slice_cmp nat_cmp) others o i) (map.entries-from_sorted (slice_cmp nat_cmp) names n i)

-- ---- examples

abbrev one : Page
one = record { groups = []; text = codes "1" }

abbrev two : Page
two = record { groups = []; text = codes "2" }

-- nothing is written where nothing has changed
nothing_changed : compacted (site_of ((codes "a", one) ∷ []) []) (site_of ((codes "a", one) ∷ []) []) ≡ []
nothing_changed = on_lists ((codes "a", one) ∷ []) [] ((codes "a", one) ∷ []) [] tt tt tt tt

-- a page with another text is removed and put; another one stays
another_text : compacted (site_of ((codes "a", one) ∷ (codes "b", two) ∷ []) []) (site_of ((codes "a", two) ∷ (codes "b", two) ∷ []) [])
    ≡ remove_page (codes "a") ∷ set_page (codes "a") two ∷ []
another_text = on_lists ((codes "a", one) ∷ (codes "b", two) ∷ []) [] ((codes "a", two) ∷ (codes "b", two) ∷ []) [] tt tt tt tt

-- A page that was moved from `a` to `c` and on to `b`: it is put under its first alias, and its path comes last. The
-- configuration has a page under the alias `a`, which is removed first.
abbrev moved : Aliases
moved = (codes "a", codes "b") ∷ (codes "c", codes "b") ∷ []

aliases_before_the_path : compacted (site_of ((codes "a", one) ∷ []) []) (site_of ((codes "b", one) ∷ []) moved)
    ≡ remove_page (codes "a") ∷ set_page (codes "a") one ∷ move_page (codes "a") (codes "c") ∷ move_page (codes "c") (codes "b") ∷ []
aliases_before_the_path = on_lists ((codes "a", one) ∷ []) [] ((codes "b", one) ∷ []) moved tt tt tt tt

-- a page that stands as the configuration gives it, but for an alias, is made anew
an_alias_alone : compacted (site_of ((codes "b", one) ∷ []) []) (site_of ((codes "b", one) ∷ []) ((codes "a", codes "b") ∷ []))
    ≡ remove_page (codes "b") ∷ set_page (codes "a") one ∷ move_page (codes "a") (codes "b") ∷ []
an_alias_alone = on_lists ((codes "b", one) ∷ []) [] ((codes "b", one) ∷ []) ((codes "a", codes "b") ∷ []) tt tt tt tt

-- an alias goes with the page that it leads to
back_again : compacted (site_of ((codes "b", one) ∷ []) moved) (site_of ((codes "a", one) ∷ []) [])
    ≡ remove_page (codes "b") ∷ set_page (codes "a") one ∷ []
back_again = on_lists ((codes "b", one) ∷ []) moved ((codes "a", one) ∷ []) [] tt tt tt tt
