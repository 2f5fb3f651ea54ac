-- Stores after edits that may be refused.
use Rattle.std.specs.Prelude.{◌≡◌, ◌+◌, ◌≤◌, ℕ, List, [], ◌∷◌, length, Option, Some, None, Result, Ok, Err, if◌then◌else◌}
use Rattle.std.specs.FinMap as map
use Rattle.doc_store_readers.specs.Pages.{Page}
use Rattle.doc_store_readers.specs.Sites.{Site}
use Rattle.doc_store.specs.Store.{StoreState, put_into, without_page, moved_in}
use Rattle.doc_store.specs.declared.site_edit.SiteEdit.{SiteEdit}
use Rattle.doc_store.specs.declared.site_edit.SiteEdit.TheVariants as site_edits
use Rattle.doc_store.specs.Store.{page_limit, alias_limit, text_limit, put_limit}
use Rattle.doc_server_script.specs.Compactions.{compacted}

-- a store after a call that may have refused
abbrev pub unless_refused : {A E : Type 0} → StoreState → Result A E → Option StoreState
unless_refused store (Ok done) = Some store
unless_refused store (Err e) = None

-- the store after an edit, unless it is refused or removes no page
abbrev pub edited : StoreState → SiteEdit → Option StoreState
edited store (site_edits.Put path groups text) =
    unless_refused (put_into store path groups text).0 (put_into store path groups text).1
edited store (site_edits.Remove path) = if map.contains_key store.site.pages path then Some (without_page store path) else None
edited store (site_edits.Move from to) = unless_refused (moved_in store from to).0 (moved_in store from to).1

-- the store after some edits, unless one is refused
abbrev pub replayed : Option StoreState → List SiteEdit → Option StoreState
replayed store [] = store
replayed None (edit ∷ edits) = None
replayed (Some store) (edit ∷ edits) = replayed (edited store edit) edits

-- A site is no larger than a store may be, and stamps are left for the edits that lead to it.
pub record HasRoom (store : StoreState) (site : Site) : Type 0 where
  pub pages : map.len site.pages ≤ page_limit
  pub aliases : map.len site.aliases ≤ alias_limit
  pub texts : (path : List ℕ) (page : Page) → map.get site.pages path ≡ Some page → length page.text ≤ text_limit
  pub puts : store.puts + length (compacted store.site site) ≤ put_limit
