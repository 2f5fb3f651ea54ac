-- The demonstration site, all of which is this project's choice.
use Rattle.std.specs.Prelude.{ℕ, List, [], ◌∷◌, true, false, codes, None, Result}
use Rattle.std.specs.FinMap as map
use Rattle.doc_store_readers.specs.Readers.{ReaderTable}
use Rattle.doc_store.specs.declared.store.EditError.{EditError}
use Rattle.doc_store.specs.declared.store.Put.{Put}
use Rattle.doc_hub.specs.Worlds.{World, new_world, plain_settings, world_put}
use Rattle.doc_server_config.specs.Markdown.{plain}
use Rattle.doc_server_config.specs.declared.config.SiteConfig.{SiteConfig}
use Rattle.doc_server_config.specs.declared.page_row.PageRow.{PageRow}
use Rattle.doc_server_config.specs.declared.page_row.Source.TheVariants.{Text}

-- an owner, a reader of the group `staff` and one of the group `ops`, by their tokens
abbrev pub demo_readers : ReaderTable
demo_readers = record {
  by_token = map.from_entries (
      (codes "tok-owner", record { owner = true; groups = [] })
      ∷ (codes "tok-ann", record { owner = false; groups = codes "staff" ∷ [] })
      ∷ (codes "tok-bob", record { owner = false; groups = codes "ops" ∷ [] })
      ∷ []);
  by_digest = map.empty;
}

-- a page of one group, with its text
abbrev pub demo_page : List ℕ → List ℕ → List ℕ → PageRow
demo_page path group text = record { path = path; groups = group ∷ []; source = Text text }

-- the configuration of the demonstration site
abbrev pub demo_config : SiteConfig
demo_config = record {
  keep_alive = true;
  cache = 4;
  entities = None;
  markdown = plain;
  readers = demo_readers;
  pages = demo_page (codes "a.md") (codes "staff") (codes "Hello\n")
      ∷ demo_page (codes "b.md") (codes "staff") (codes "[c](c.md) [d](d.md)\n")
      ∷ demo_page (codes "c.md") (codes "ops") (codes "See [b](b.md), [b](b.md).\n") ∷ [];
  browse = None;
}

-- a put of a page of one group
abbrev pub page_put : World → List ℕ → List ℕ → List ℕ → World × Result Put EditError
page_put w path group text = world_put w path (group ∷ []) text

-- the world after it
abbrev pub with_page : World → List ℕ → List ℕ → List ℕ → World
with_page w path group text = (page_put w path group text).0

-- a new server with these readers, which keeps connections alive, and after puts of a first, a second and a third page
abbrev pub site_of_none : World
site_of_none = new_world demo_readers (plain_settings true) None

abbrev pub site_of_one : World
site_of_one = with_page site_of_none (codes "a.md") (codes "staff") (codes "Hello\n")

abbrev pub site_of_two : World
site_of_two = with_page site_of_one (codes "b.md") (codes "staff") (codes "[c](c.md) [d](d.md)\n")

-- the demonstration world
unfoldable pub demo_world : World
demo_world = with_page site_of_two (codes "c.md") (codes "ops") (codes "See [b](b.md), [b](b.md).\n")
