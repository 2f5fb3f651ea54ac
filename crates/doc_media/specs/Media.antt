-- Media, and what a reader sees of them: they are the pages of a second site, which has no aliases, the text of each being
-- its bytes. The kind of a medium goes by its path. All of this is this project's choice.
use Rattle.std.specs.Prelude.{ℕ, List, Option, Some, None, option_map}
use Rattle.std.specs.FinMap as map
use Rattle.doc_store_readers.specs.declared.reader.Reader.{Reader}
use Rattle.doc_store_readers.specs.Maps.{TextMap}
use Rattle.doc_store_readers.specs.Pages.{Page}
use Rattle.doc_store_readers.specs.Sites.{Site, page_at, view_of, visible_to}

-- none where the configuration asks for no media
abbrev pub Media : Type 0
Media = Option (TextMap Page)

abbrev pub site_of_media : TextMap Page → Site
site_of_media held = record { pages = held; aliases = map.empty }

-- what a reader sees of the media
abbrev pub media_visible_to : Media → Option Reader → Media
media_visible_to media reader = option_map (λ held. (visible_to (site_of_media held) reader).pages) media

-- the same in the order of the paths: what a reply is made of beside the view
abbrev pub Beside : Type 0
Beside = Option (List (List ℕ × Page))

abbrev pub beside_of : Media → Option Reader → Beside
beside_of media reader = option_map (λ held. (view_of (site_of_media held) reader).pages) media

-- the medium that stands under a path
abbrev pub medium_in : Beside → List ℕ → Option Page
medium_in None path = None
medium_in (Some held) path = page_at held path

-- where a path leads for links: as among pages, or to a medium that is seen
abbrev pub goal_beside : (List ℕ → Option (List ℕ)) → Beside → List ℕ → Option (List ℕ)
goal_beside goals beside path = elim (goals path) [ Some goal ↦ Some goal | None ↦ option_map (λ _. path) (medium_in beside path) ]
