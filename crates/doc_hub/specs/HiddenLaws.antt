-- A page or a medium that a reader doesn't see is to them as one that doesn't exist, and a link to a hidden one as a link to none.
use Rattle.std.specs.Prelude.{◌≡◌, ℕ, List, false, Option, option_and_then, option_map, Ok}
use Rattle.std.specs.FinMap as map
use Rattle.doc_page_parts.specs.declared.rendered.Rendered.{Rendered}
use Rattle.doc_store_readers.specs.declared.reader.Reader.{Reader}
use Rattle.doc_store_readers.specs.Sites.{Site, may_see_at, view_of}
use Rattle.doc_store_readers.specs.Pages.{Page}
use Rattle.doc_media.specs.Media.{Media, beside_of}
use Rattle.doc_store.specs.Store.{effect_of, remove_page}
use Rattle.doc_shelf_pages.specs.Templates.{body_of}
use Rattle.doc_http.specs.declared.request.Request.{Request}
use Rattle.doc_http.specs.declared.request.Next.TheVariants as nexts
use Rattle.doc_hub_replies.specs.Replies.{Renders, link_shown}
use Rattle.doc_hub_events.specs.declared.event.ConnId.{ConnId}
use Rattle.doc_hub_events.specs.Events.{step_on}
use Rattle.doc_hub_events.specs.declared.event.Step.{Step}
use Rattle.doc_hub.specs.Runs.{Happens}
use Rattle.doc_hub.specs.StepLaws.{Begins}
use Rattle.doc_hub.specs.Worlds.{World, answer_in, reader_of}

-- a reader sees no page that stands under a path
abbrev pub IsHidden : Site → Option Reader → List ℕ → Type 0
IsHidden site reader path = may_see_at reader (map.get site.pages path) ≡ false

-- a site in which that page doesn't exist: it was removed, and the aliases that led to it with it
abbrev pub site_without : Site → List ℕ → Site
site_without site path = effect_of site (remove_page path)

-- a world in whose site it doesn't exist, and all else is the same
abbrev pub world_without : World → List ℕ → World
world_without w path = record w { site = site_without w.site path }

-- A hidden page is answered as one that doesn't exist: whether it stands or not, each request of a reader who doesn't see it has one
-- answer, byte for byte, and asks for one edit; and steps of an open connection whose unread bytes begin with that request send equal
-- bytes and do the same, where both are answered.
pub record HiddenAsNone : Type 0 where
  pub answers : (render : Renders) (w : World) (request : Request) (path : List ℕ) → IsHidden w.site (reader_of w request) path
      → answer_in render w request ≡ answer_in render (world_without w path) request
  pub steps : (render : Renders) (w w' v' : World) (c : ConnId) (used : ℕ) (request : Request) (path : List ℕ) (said told : Step)
      → IsHidden w.site (reader_of w request) path → Begins w c (nexts.Request used request)
      → Happens render w (step_on c) w' (Ok said) → Happens render (world_without w path) (step_on c) v' (Ok told)
      → said ≡ told

-- ---- media

-- the medium that stands under a path, seen or not
abbrev pub medium_at : Media → List ℕ → Option Page
medium_at media path = option_and_then (λ held. map.get held path) media

-- a reader sees no medium that stands under a path
abbrev pub IsHiddenMedium : Media → Option Reader → List ℕ → Type 0
IsHiddenMedium media reader path = may_see_at reader (medium_at media path) ≡ false

-- media among which that one doesn't exist
abbrev pub media_without : Media → List ℕ → Media
media_without media path = option_map (λ held. map.remove held path) media

-- a world among whose media it doesn't exist, and all else is the same
abbrev pub world_without_medium : World → List ℕ → World
world_without_medium w path = record w { media = media_without w.media path }

-- A hidden medium is answered as one that doesn't exist, as a hidden page is.
pub record HiddenMediumAsNone : Type 0 where
  pub answers : (render : Renders) (w : World) (request : Request) (path : List ℕ) → IsHiddenMedium w.media (reader_of w request) path
      → answer_in render w request ≡ answer_in render (world_without_medium w path) request
  pub steps : (render : Renders) (w w' v' : World) (c : ConnId) (used : ℕ) (request : Request) (path : List ℕ) (said told : Step)
      → IsHiddenMedium w.media (reader_of w request) path → Begins w c (nexts.Request used request)
      → Happens render w (step_on c) w' (Ok said) → Happens render (world_without_medium w path) (step_on c) v' (Ok told)
      → said ≡ told

-- ---- links

-- A link to a hidden page is shown as a link to one that doesn't exist: whether the hidden page stands or not, each link of each page
-- is shown alike to a reader who doesn't see it, and so is the page with its links, byte for byte, whatever media stand beside it.
pub record LinksToHiddenAsToNone : Type 0 where
  pub links : (site : Site) (media : Media) (reader : Option Reader) (hidden page dest : List ℕ) → IsHidden site reader hidden
      → link_shown (view_of site reader) (beside_of media reader) page dest
      ≡ link_shown (view_of (site_without site hidden) reader) (beside_of media reader) page dest
  pub pages : (site : Site) (media : Media) (reader : Option Reader) (hidden page : List ℕ) (rendered : Rendered)
      → IsHidden site reader hidden
      → body_of page (link_shown (view_of site reader) (beside_of media reader) page) rendered
      ≡ body_of page (link_shown (view_of (site_without site hidden) reader) (beside_of media reader) page) rendered

-- And so is a link to a hidden medium.
pub record LinksToHiddenMediaAsToNone : Type 0 where
  pub links : (site : Site) (media : Media) (reader : Option Reader) (hidden page dest : List ℕ) → IsHiddenMedium media reader hidden
      → link_shown (view_of site reader) (beside_of media reader) page dest
      ≡ link_shown (view_of site reader) (beside_of (media_without media hidden) reader) page dest
  pub pages : (site : Site) (media : Media) (reader : Option Reader) (hidden page : List ℕ) (rendered : Rendered)
      → IsHiddenMedium media reader hidden
      → body_of page (link_shown (view_of site reader) (beside_of media reader) page) rendered
      ≡ body_of page (link_shown (view_of site reader) (beside_of (media_without media hidden) reader) page) rendered
