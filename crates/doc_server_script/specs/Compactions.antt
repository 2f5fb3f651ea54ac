-- The edits that lead from one site to another. All of this is this project's choice.
use Rattle.std.specs.Prelude.{ℕ, List, [], ◌∷◌, ◌++◌, Bool, true, false, not, ◌&&◌, bytes_eq, map as mapped, Option, Some, None}
use Rattle.std.specs.Cmp.Lexicographic.{pointwise}
use Rattle.std.specs.FinMap as map
use Rattle.std.specs.List.{filter, flat_map}
use Rattle.doc_store_readers.specs.Maps.{TextMap}
use Rattle.doc_store.specs.Names.{aliases_of}
use Rattle.doc_store_readers.specs.Pages.{Page}
use Rattle.doc_store_readers.specs.Sites.{Site}
use Rattle.doc_store.specs.Store.{set_page, remove_page, move_page, effect_of}
use Rattle.doc_store.specs.declared.site_edit.SiteEdit.{SiteEdit}

-- the site after some edits
abbrev pub effects : Site → List SiteEdit → Site
effects site [] = site
effects site (edit ∷ edits) = effects (effect_of site edit) edits

-- whether two lists of texts are the same
abbrev pub same_texts : List (List ℕ) → List (List ℕ) → Bool
same_texts texts others = pointwise bytes_eq texts others

-- whether the same page stands, or none
abbrev pub same_pages : Option Page → Option Page → Bool
same_pages None None = true
same_pages None (Some other) = false
same_pages (Some page) None = false
same_pages (Some page) (Some other) = same_texts page.groups other.groups && bytes_eq page.text other.text

-- whether two sites have the same page under a path, with the same aliases
abbrev pub same_at : Site → Site → List ℕ → Bool
same_at config site path =
    same_pages (map.get config.pages path) (map.get site.pages path)
    && same_texts (aliases_of config.aliases path) (aliases_of site.aliases path)

-- those of some pages that the two sites don't have so, in the order of their paths
abbrev pub other_pages : Site → Site → TextMap Page → List (List ℕ × Page)
other_pages config site pages = filter (λ entry. not (same_at config site entry.0)) (map.entries pages)

-- a move from each name to the next
abbrev pub moves : List ℕ → List (List ℕ) → List SiteEdit
moves from [] = []
moves from (to ∷ names) = move_page from to ∷ moves to names

-- a page is put under the first of its names, and moved along the others
abbrev pub made_along : Page → List (List ℕ) → List SiteEdit
made_along page [] = []
made_along page (first ∷ names) = set_page first page ∷ moves first names

-- a page is made with its aliases, in the order of their bytes; last comes its path
abbrev pub made : Site → List ℕ × Page → List SiteEdit
made site entry = made_along entry.1 (aliases_of site.aliases entry.0 ++ entry.0 ∷ [])

-- The edits that lead from a configuration's site to another: each page that the other doesn't have so is
-- removed, then each page that the configuration doesn't give so is made.
unfoldable pub compacted : Site → Site → List SiteEdit
compacted config site =
    mapped (λ entry. remove_page entry.0) (other_pages config site config.pages)
    ++ flat_map (made site) (other_pages config site site.pages)
