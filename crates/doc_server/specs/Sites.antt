-- The world of a configured site: its pages are put one after the other. All of this is this project's choice.
use Rattle.std.specs.Prelude.{ℕ, List, [], ◌∷◌, Bool, true, Option, Some, None, Result, Ok, Err, if◌then◌else◌}
use Rattle.std.specs.Option.{ok_or}
use Rattle.doc_store.specs.declared.store.EditError.{EditError}
use Rattle.doc_store.specs.declared.store.Put.{Put}
use Rattle.doc_media.specs.Media.{Media}
use Rattle.doc_hub.specs.Worlds.{World, is_capacity, new_world, world_put}
use Rattle.doc_people.specs.declared.settings.Settings.{Settings}
use Rattle.doc_server_config.specs.declared.config.SiteConfig.{SiteConfig}
use Rattle.doc_server_config.specs.declared.page_row.PageRow.{PageRow}
use Rattle.doc_server_config.specs.declared.page_row.Source.{Source}
use Rattle.doc_server_config.specs.declared.page_row.Source.TheVariants as sources
use Rattle.doc_server_streams.specs.declared.fault.Fault.{Fault}
use Rattle.doc_server_streams.specs.declared.fault.Fault.TheVariants as faults

-- the text of a page: its own, or the first of the texts of files, where there is one
abbrev pub text_of : Source → List (List ℕ) → Option (List ℕ)
text_of (sources.Text text) texts = Some text
text_of (sources.File name) [] = None
text_of (sources.File name) (text ∷ more) = Some text

-- the texts of files that are left for the pages behind it
abbrev pub texts_behind : Source → List (List ℕ) → List (List ℕ)
texts_behind (sources.Text text) texts = texts
texts_behind (sources.File name) [] = []
texts_behind (sources.File name) (text ∷ more) = more

-- the world of a put that was accepted
abbrev pub accepted : World → Result Put EditError → Option World
accepted w (Ok put) = Some w
accepted w (Err e) = None

-- the world after the put of a page, where it has a text and the put is accepted
abbrev pub with_page : World → PageRow → Option (List ℕ) → Option World
with_page w page None = None
with_page w page (Some text) = let r = world_put w page.path page.groups text in accepted r.0 r.1

-- the same of pages in their order, where each has a text and each put is accepted
abbrev pub with_pages : World → List PageRow → List (List ℕ) → Option World
with_pages w [] texts = Some w
with_pages w (page ∷ more) texts = elim (with_page w page (text_of page.source texts)) [
  | None ↦ None
  | Some v ↦ with_pages v more (texts_behind page.source texts)
]

-- the settings of a configured site, which takes edits or none
abbrev pub settings_taking : Bool → SiteConfig → Settings
settings_taking takes config = record { keep_alive = config.keep_alive; takes_edits = takes; browse = config.browse }

-- those of a site that takes edits
abbrev pub settings_of : SiteConfig → Settings
settings_of config = settings_taking true config

-- the world of a configured site beside media, which takes edits or none, without connections, or what stops the program: the cache may
-- have no such capacity, or a page is refused, as where a medium stands under its path
abbrev pub site_world_taking : Bool → SiteConfig → List (List ℕ) → Media → Result World Fault
site_world_taking takes config texts media =
    if is_capacity config.cache
    then ok_or (with_pages (new_world config.readers (settings_taking takes config) media) config.pages texts) faults.Refused
    else Err faults.Config

-- that of a site that takes edits
abbrev pub site_world_beside : SiteConfig → List (List ℕ) → Media → Result World Fault
site_world_beside config texts media = site_world_taking true config texts media

-- the same without media
abbrev pub site_world : SiteConfig → List (List ℕ) → Result World Fault
site_world config texts = site_world_beside config texts None
