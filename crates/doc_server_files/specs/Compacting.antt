-- The store that the command `compact` makes of a configured site.
use Rattle.std.specs.Prelude.{ℕ, List, [], ◌∷◌, Option, Some, None, Result, Ok, Err}
use Rattle.doc_hub.specs.Worlds.{World, store_of}
use Rattle.doc_store.specs.Store.{StoreState, set_page}
use Rattle.doc_server_config.specs.declared.page_row.PageRow.{PageRow}
use Rattle.doc_server_streams.specs.declared.fault.Fault.{Fault}
use Rattle.doc_server_restore.specs.Restores.{made}
use Rattle.doc_server.specs.Sites.{text_of, texts_behind}

-- the store after the put of a page beside no media, where it has a text and the put is accepted
abbrev pub stored_page : StoreState → PageRow → Option (List ℕ) → Option StoreState
stored_page store page None = None
stored_page store page (Some text) = made None store (set_page page.path (record { groups = page.groups; text = text }))

-- the same of pages in their order, where each has a text and each put is accepted
abbrev pub stored_pages : StoreState → List PageRow → List (List ℕ) → Option StoreState
stored_pages store [] texts = Some store
stored_pages store (page ∷ more) texts = elim (stored_page store page (text_of page.source texts)) [
  | None ↦ None
  | Some next ↦ stored_pages next more (texts_behind page.source texts)
]

-- the store of a world, where there is one
abbrev pub store_in : Result World Fault → Result StoreState Fault
store_in (Err fault) = Err fault
store_in (Ok w) = Ok (store_of w)
