-- What the links of a store's pages are, by what the renderer makes of their texts. All of this is this project's choice.
use Rattle.std.specs.Prelude.{ℕ, List}
use Rattle.doc_resolve.specs.declared.link_kind.LinkKind.{LinkKind}
use Rattle.doc_shelf_pages.specs.Views.{Renders, links_in}
use Rattle.doc_store_readers.specs.Pages.{Page}

-- what the links of a page at a path are
abbrev pub linking : Renders → List ℕ → Page → List LinkKind
linking render path page = (links_in path (render page.text)).links
