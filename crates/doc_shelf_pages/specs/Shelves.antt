-- What a shelf keeps of the pages of a store, and which documents its cache may have. All of this is this project's choice.
use Rattle.std.specs.Prelude.{◌≡◌, ℕ, ◌<◌, List, Option, Some, None, option_map}
use Rattle.std.specs.FinMap as map
use Rattle.std.specs.List.{Contains}
use Rattle.doc_cache.specs.Caches.{Cached}
use Rattle.doc_cache.specs.declared.key.Key.{Key}
use Rattle.doc_index_tables.specs.Maps.{PairMap}
use Rattle.doc_shelf_pages.specs.Templates.{body_of}
use Rattle.doc_page_parts.specs.declared.rendered.Rendered.{Rendered}
use Rattle.doc_resolve.specs.Decisions.{decisions}
use Rattle.doc_resolve.specs.Hrefs.{shown}
use Rattle.doc_shelf_pages.specs.KeptPages.{Kept, kept_of, with_page as kept_with_page, without_page as kept_without_page}
use Rattle.doc_shelf_pages.specs.Held.{rendered_under}
use Rattle.doc_shelf_pages.specs.Views.{Renders, links_in}
use Rattle.doc_store_readers.specs.Pages.{Page}
use Rattle.doc_store.specs.Store.{StoreState, IsStore}
use Rattle.doc_words_search.specs.Words.{word_counts}

-- what the renderer makes of the page at a path, where it has this stamp
abbrev pub page_under : Renders → StoreState → List ℕ → ℕ → Option Rendered
page_under render store path stamp = rendered_under render stamp (map.get store.stamps path) (map.get store.site.pages path)

-- a map has, under each page's path and stamp, what is known of the page, and nothing else
abbrev pub Knows : {X : Type 0} → (List ℕ → Rendered → X) → Renders → StoreState → PairMap X → Type 0
Knows known render store held =
    (path : List ℕ) (stamp : ℕ) → map.get held (path, stamp) ≡ option_map (known path) (page_under render store path stamp)

-- What is kept of a store's pages: of each, under its path and its stamp, what it links to with its headings, the counts of its
-- words, and its rendering as it is kept; and nothing else.
pub record IsKept (render : Renders) (store : StoreState) (kept : Kept) : Type 0 where
  pub links : Knows links_in render store kept.links
  pub words : Knows (λ path page. word_counts page) render store kept.words
  pub renderings : Knows (λ path page. kept_of kept.with_texts page) render store kept.renderings

-- what is kept after the page under a path and the stamp that it had, if any, is let go
abbrev pub let_go : Kept → List ℕ → Option ℕ → Kept
let_go kept path None = kept
let_go kept path (Some stamp) = kept_without_page kept path stamp

-- what is kept while a page is put under a path: that of the store's pages, and what the renderer makes of the text, under the stamp
-- that comes next
pub record IsBeingPut (render : Renders) (store : StoreState) (path text : List ℕ) (kept : Kept) : Type 0 where
  pub before : Kept
  pub is_kept : IsKept render store before
  pub added : kept ≡ kept_with_page before path store.puts (render text)

-- ---- documents

-- A text may stand under a key: the key's stamp was given, and where a page has it, the text is the document of that page for each
-- reader for whom its links are decided as the key says.
pub record IsDocument (render : Renders) (store : StoreState) (key : Key) (text : List ℕ) : Type 0 where
  pub given : key.stamp < store.puts
  pub document : (path : List ℕ) (page : Page) (goals : List ℕ → Option (List ℕ))
      → map.get store.stamps path ≡ Some key.stamp → map.get store.site.pages path ≡ Some page
      → decisions goals path (render page.text) ≡ key.decisions
      → text ≡ body_of path (shown goals path) (render page.text)

-- Each text of a cache may stand under its key. Of a key whose stamp no page has, or whose decisions no reader has for that page, nothing
-- is said: no reader's look-up finds it.
abbrev pub HasDocuments : Renders → StoreState → Cached → Type 0
HasDocuments render store cache = (pair : Key × List ℕ) → Contains cache.entries pair → IsDocument render store pair.0 pair.1

-- ---- edits

-- What an edit leaves of a store, of what is kept of its pages, and of the documents of every cache, where all was as it should be
-- before.
pub record IsEdited (render : Renders) (old new : StoreState) (kept : Kept) : Type 0 where
  pub is_store : IsStore new
  pub pages : IsKept render new kept
  pub documents : (cache : Cached) → HasDocuments render old cache → HasDocuments render new cache
