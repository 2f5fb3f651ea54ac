-- Laws of what readers see of a store, of the names of pages, and of stamps.
use Rattle.std.specs.Prelude.{◌≡◌, ◌≢◌, ◌+◌, ℕ, List, true, is_some, Option, Some, Ok}
use Rattle.std.specs.FinMap as map
use Rattle.doc_page_parts.specs.Sights.{leads_to_itself, seen}
use Rattle.doc_store_readers.specs.declared.reader.Reader.{Reader}
use Rattle.doc_store_readers.specs.Sites.{Site, IsSite, goal_in, goal_of, may_see_at, page_at, view_of}
use Rattle.doc_store.specs.declared.store.Put.{Put}
use Rattle.doc_store.specs.Names.{AreNames, names_of}
use Rattle.doc_store.specs.Store.{StoreState, IsStore, put_into, moved_in}

-- A reader's sight sees what stands in the reader's view: a path where a page stands under it there,
-- and of all pages of the site those of the view.
pub record SeesTheView (site : Site) (reader : Reader) : Type 0 where
  pub path : (path : List ℕ) → leads_to_itself (goal_in (view_of site (Some reader)) path) path
      ≡ is_some (page_at (view_of site (Some reader)).pages path)
  pub pages : seen (goal_in (view_of site (Some reader))) (map.entries site.pages) ≡ (view_of site (Some reader)).pages

abbrev pub WhatIsSeen : Type 0
WhatIsSeen = (site : Site) (reader : Reader) → IsSite site → SeesTheView site reader

-- The names of a page are the paths that lead to it in the site, and in the view of each reader who may
-- see it.
pub record NamesLead (site : Site) (path : List ℕ) : Type 0 where
  pub in_site : AreNames (names_of site path) (goal_of site) path
  pub in_view : (reader : Option Reader) → may_see_at reader (map.get site.pages path) ≡ true
      → AreNames (names_of site path) (goal_in (view_of site reader)) path

abbrev pub NamesOfPages : Type 0
NamesOfPages = (site : Site) (path : List ℕ) → IsSite site → NamesLead site path

-- From one store to the next a page got its path with the next stamp, which no page had; later stamps
-- are larger, as they count on.
pub record TakesStamp (old : StoreState) (path : List ℕ) (new : StoreState) : Type 0 where
  pub taken : map.get new.stamps path ≡ Some old.puts
  pub fresh : (other : List ℕ) → map.get old.stamps other ≢ Some old.puts
  pub counted : new.puts ≡ old.puts + 1
  pub store : IsStore new

-- an accepted put or move takes a stamp so: no stamp comes twice
pub record StampsAreFresh : Type 0 where
  pub put : (store : StoreState) (path : List ℕ) (groups : List (List ℕ)) (text : List ℕ) (done : Put) → IsStore store
      → (put_into store path groups text).1 ≡ Ok done → TakesStamp store path (put_into store path groups text).0
  pub move : (store : StoreState) (from to : List ℕ) → IsStore store
      → (moved_in store from to).1 ≡ Ok tt → TakesStamp store to (moved_in store from to).0
