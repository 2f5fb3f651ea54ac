-- The edits that lead a site to another while it is served. All of this is this project's choice.
use Rattle.std.specs.Prelude.{ℕ, List, [], ◌∷◌, ◌++◌, Bool, not, ◌&&◌, map as mapped, if◌then◌else◌}
use Rattle.std.specs.FinMap as map
use Rattle.std.specs.List.{filter, flat_map}
use Rattle.doc_store.specs.Names.{aliases_of}
use Rattle.doc_store_readers.specs.Pages.{Page}
use Rattle.doc_store_readers.specs.Sites.{Site}
use Rattle.doc_store.specs.Store.{set_page, remove_page}
use Rattle.doc_store.specs.declared.site_edit.SiteEdit.{SiteEdit}
use Rattle.doc_server_script.specs.Compactions.{made, other_pages, same_texts}

-- whether a page stands under a path in both sites, with the same aliases
abbrev pub stands_so : Site → Site → List ℕ → Bool
stands_so old new path =
    (map.contains_key old.pages path && map.contains_key new.pages path)
    && same_texts (aliases_of old.aliases path) (aliases_of new.aliases path)

-- the pages of the old site that don't stand so in both, in the order of their paths
abbrev pub gone_pages : Site → Site → List (List ℕ × Page)
gone_pages old new = filter (λ entry. not (stands_so old new entry.0)) (map.entries old.pages)

-- a page that stands so in both is replaced where it stands; any other is made with its aliases
abbrev pub led_page : Site → Site → List ℕ × Page → List SiteEdit
led_page old new entry = if stands_so old new entry.0 then set_page entry.0 entry.1 ∷ [] else made new entry

-- The edits that lead the old site to the new one: each page of the old that doesn't stand so in both is removed,
-- then each page of the new that the two don't have alike is replaced or made.
unfoldable pub led : Site → Site → List SiteEdit
led old new =
    mapped (λ entry. remove_page entry.0) (gone_pages old new)
    ++ flat_map (led_page old new) (other_pages old new new.pages)
