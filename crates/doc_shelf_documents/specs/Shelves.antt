-- A shelf: a store, and beside it what is kept of the store's pages, which no answer tells.
use Rattle.doc_cache.specs.Caches.{Cached}
use Rattle.doc_shelf_pages.specs.Shelves.{HasDocuments, IsKept}
use Rattle.doc_shelf_pages.specs.KeptPages.{Kept}
use Rattle.doc_shelf_pages.specs.Views.{Renders}
use Rattle.doc_store.specs.Store.{StoreState, IsStore}

-- What is kept beside a store: of each of its pages under its present stamp what the renderer makes of it, and nothing else; and in
-- the cache documents alone.
pub record IsShelf (render : Renders) (store : StoreState) (kept : Kept) (cache : Cached) : Type 0 where
  pub is_store : IsStore store
  pub pages : IsKept render store kept
  pub documents : HasDocuments render store cache
