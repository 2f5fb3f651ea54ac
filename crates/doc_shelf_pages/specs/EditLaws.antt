-- Laws of what a shelf keeps: edits of a store, with what goes with them, keep it so, and what is found in it is what the renderer makes.
use Rattle.std.specs.Prelude.{◌≡◌, ℕ, List, [], Bool, Option, Some, None}
use Rattle.std.specs.FinMap as map
use Rattle.doc_cache.specs.Caches.{Cached, cached, kept as kept_in_cache, looked, text_under}
use Rattle.doc_cache.specs.declared.key.Key.{Key}
use Rattle.doc_shelf_pages.specs.Templates.{body_of}
use Rattle.doc_resolve.specs.Decisions.{decisions}
use Rattle.doc_resolve.specs.Hrefs.{shown}
use Rattle.doc_shelf_pages.specs.Shelves.{HasDocuments, IsBeingPut, IsDocument, IsKept, let_go}
use Rattle.doc_shelf_pages.specs.KeptPages.{IsFree, Kept, carried, kept_of, none_kept, without_page as kept_without_page}
use Rattle.doc_shelf_pages.specs.Held.{held_links, held_words}
use Rattle.doc_shelf_pages.specs.Views.{Renders, links_in}
use Rattle.doc_store_readers.specs.Pages.{Page}
use Rattle.doc_store.specs.Store.{StoreState, IsStore, empty_store, with_move, with_page, without_page}

-- ---- pages

-- a page stands under a path, and has this stamp
pub record Stands (store : StoreState) (path : List ℕ) (stamp : ℕ) (page : Page) : Type 0 where
  pub stamped : map.get store.stamps path ≡ Some stamp
  pub stands : map.get store.site.pages path ≡ Some page

-- A put adds what the renderer makes of the text under the next stamp, under which nothing is kept, and lets go what was kept of the
-- path before; a put that is refused lets go what it added.
pub record PutsAreKept (render : Renders) (store : StoreState) : Type 0 where
  pub free : (kept : Kept) (path : List ℕ) → IsKept render store kept → IsFree kept path store.puts
  pub made : (kept : Kept) (path text : List ℕ) (groups : List (List ℕ)) → IsBeingPut render store path text kept
      → IsKept render (with_page store path (record { groups = groups; text = text })) (let_go kept path (map.get store.stamps path))
  pub refused : (kept : Kept) (path text : List ℕ) → IsBeingPut render store path text kept
      → IsKept render store (kept_without_page kept path store.puts)

-- a removal lets go what was kept of the path
abbrev pub RemovalsAreKept : Renders → StoreState → Type 0
RemovalsAreKept render store =
    (kept : Kept) (path : List ℕ) → IsKept render store kept
    → IsKept render (without_page store path) (let_go kept path (map.get store.stamps path))

-- A move carries what is kept over, which is a put of the page's text under its new path, and then lets go what was kept under the old
-- one.
pub record MovesAreKept (render : Renders) (store : StoreState) : Type 0 where
  pub carries : (kept : Kept) (from to : List ℕ) (stamp : ℕ) (page : Page) → IsKept render store kept → Stands store from stamp page
      → IsBeingPut render store to page.text (carried kept from stamp to store.puts)
  pub made : (kept : Kept) (from to : List ℕ) (stamp : ℕ) (page : Page) → Stands store from stamp page
      → map.get store.site.pages to ≡ None → IsBeingPut render store to page.text kept
      → IsKept render (with_move store from to) (kept_without_page kept from stamp)

-- what is kept stays so through every edit
pub record EditsOfKept : Type 0 where
  pub empty : (render : Renders) (with_texts : Bool) → IsKept render empty_store (none_kept with_texts)
  pub puts : (render : Renders) (store : StoreState) → IsStore store → PutsAreKept render store
  pub removals : (render : Renders) (store : StoreState) → IsStore store → RemovalsAreKept render store
  pub moves : (render : Renders) (store : StoreState) → IsStore store → MovesAreKept render store

-- what is kept is what indexes hold of the store's pages, and of a page the rendering and the links
pub record KeptIsHeld (render : Renders) (store : StoreState) (kept : Kept) : Type 0 where
  pub links : kept.links ≡ held_links render store
  pub words : kept.words ≡ held_words render store
  pub rendering_of : (path : List ℕ) (stamp : ℕ) (page : Page) → Stands store path stamp page
      → map.get kept.renderings (path, stamp) ≡ Some (kept_of kept.with_texts (render page.text))
  pub links_of : (path : List ℕ) (stamp : ℕ) (page : Page) → Stands store path stamp page
      → map.get kept.links (path, stamp) ≡ Some (links_in path (render page.text))

abbrev pub WhatIsKeptIsHeld : Type 0
WhatIsKeptIsHeld = (render : Renders) (store : StoreState) (kept : Kept) → IsKept render store kept → KeptIsHeld render store kept

-- ---- documents

-- a cache has the documents of a store's pages after every edit too, with no text touched
pub record EditsKeepDocuments (render : Renders) (store : StoreState) (cache : Cached) : Type 0 where
  pub put : (path : List ℕ) (page : Page) → HasDocuments render (with_page store path page) cache
  pub removed : (path : List ℕ) → HasDocuments render (without_page store path) cache
  pub moved : (from to : List ℕ) (stamp : ℕ) (page : Page) → Stands store from stamp page
      → HasDocuments render (with_move store from to) cache

-- a cache has them when it is made, after each edit, after a look, and after one was kept
pub record CachesHaveDocuments : Type 0 where
  pub empty : (render : Renders) (store : StoreState) (capacity : ℕ) → HasDocuments render store (cached [] capacity)
  pub edits : (render : Renders) (store : StoreState) (cache : Cached) → IsStore store → HasDocuments render store cache
      → EditsKeepDocuments render store cache
  pub looks : (render : Renders) (store : StoreState) (cache : Cached) (key : Key) → HasDocuments render store cache
      → HasDocuments render store (looked cache key)
  pub keeps : (render : Renders) (store : StoreState) (cache : Cached) (key : Key) (text : List ℕ) → HasDocuments render store cache
      → IsDocument render store key text → HasDocuments render store (kept_in_cache cache key text)

-- the key of a page that stands, for a reader
abbrev pub IsKeyOf : Renders → (List ℕ → Option (List ℕ)) → List ℕ → ℕ → Page → Key → Type 0
IsKeyOf render goals path stamp page key = (key.stamp ≡ stamp) × (key.decisions ≡ decisions goals path (render page.text))

-- the document of a page that stands, for a reader
abbrev pub document_of : Renders → (List ℕ → Option (List ℕ)) → List ℕ → Page → List ℕ
document_of render goals path page = body_of path (shown goals path) (render page.text)

-- The document of a page for one reader may be kept under its key; and what is found under the key of a page, for any reader, is the
-- document of that page for that reader.
pub record DocumentsAreFound : Type 0 where
  pub made : (render : Renders) (store : StoreState) (goals : List ℕ → Option (List ℕ)) (path : List ℕ) (stamp : ℕ) (page : Page)
      (key : Key) → IsStore store → Stands store path stamp page → IsKeyOf render goals path stamp page key
      → IsDocument render store key (document_of render goals path page)
  pub found : (render : Renders) (store : StoreState) (cache : Cached) (goals : List ℕ → Option (List ℕ)) (path : List ℕ) (stamp : ℕ)
      (page : Page) (key : Key) (text : List ℕ) → HasDocuments render store cache → Stands store path stamp page
      → IsKeyOf render goals path stamp page key → text_under cache key ≡ Some text → text ≡ document_of render goals path page
