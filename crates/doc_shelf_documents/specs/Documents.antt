-- The reply that shows a page.
use Rattle.std.specs.Prelude.{ℕ, Bool, true, List, Option, option_map}
use Rattle.std.specs.FinMap as map
use Rattle.doc_cache.specs.Caches.{Cached}
use Rattle.doc_http_replies.specs.Heads.{Dress, dressed_bytes}
use Rattle.doc_http_replies.specs.ReplyForms.{content_reply}
use Rattle.doc_media.specs.Media.{Beside}
use Rattle.doc_media_links.specs.MediaLinks.{shown_beside}
use Rattle.doc_page_parts.specs.declared.linker.Shown.{Shown}
use Rattle.doc_shelf_documents.specs.Shelves.{IsShelf}
use Rattle.doc_shelf_documents.specs.declared.documents.Made.{Made}
use Rattle.doc_shelf_pages.specs.EditLaws.{Stands}
use Rattle.doc_shelf_pages.specs.KeptPages.{Kept}
use Rattle.doc_shelf_pages.specs.Templates.{body_of}
use Rattle.doc_shelf_pages.specs.Views.{Renders}
use Rattle.doc_store_readers.specs.Pages.{Page}
use Rattle.doc_store_readers.specs.Sites.{View, goal_in, page_at}
use Rattle.doc_store.specs.Store.{StoreState}

-- a reply with a document, or its head alone
abbrev pub document_reply : Dress → Bool → Bool → List ℕ → List ℕ
document_reply dress head_only close document = dressed_bytes dress (content_reply true document) head_only close

-- the document of a page that stands, for a reader who sees these media
abbrev pub document_beside : Renders → (List ℕ → Option (List ℕ)) → Beside → List ℕ → Page → List ℕ
document_beside render goals media path page = body_of path (shown_beside goals media path) (render page.text)

-- what a reader with this view is sent of the page at a path, where they see one
abbrev pub page_shown : Renders → View → Beside → List ℕ → Dress → Bool → Bool → Option (List ℕ)
page_shown render view media path dress head_only close =
    option_map (λ page. document_reply dress head_only close (document_beside render (goal_in view) media path page))
    (page_at view.pages path)

-- a document, and the reply with it
abbrev pub made_of : Dress → Bool → Bool → List ℕ → Made
made_of dress head_only close document = record { reply = document_reply dress head_only close document; document = document }

-- The same of what is kept of a page under a path and a stamp, if anything is, with its links shown so.
abbrev pub made_of_kept : Dress → Bool → Bool → Kept → (List ℕ → Shown) → List ℕ → ℕ → Option Made
made_of_kept dress head_only close kept how path stamp =
    option_map (λ page. made_of dress head_only close (body_of path how page)) (map.get kept.renderings (path, stamp))

-- a page stands under a path with a stamp, and what is kept beside its store is a shelf's
pub record IsServed (render : Renders) (store : StoreState) (kept : Kept) (cache : Cached) (path : List ℕ) (stamp : ℕ) (page : Page)
    : Type 0 where
  pub shelf : IsShelf render store kept cache
  pub stands : Stands store path stamp page
