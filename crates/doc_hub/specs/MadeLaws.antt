-- The fresh server is a world that a hub can be in.
use Rattle.std.specs.Prelude.{◌≡◌, ◌≤◌, ◌+◌, ℕ, All, true, List, length, nat_lt, Option, Some, ⊤}
use Rattle.std.specs.FinMap as map
use Rattle.doc_store_readers.specs.Pages.{Page}
use Rattle.doc_store_readers.specs.Sites.{Site, IsSite}
use Rattle.doc_store.specs.Store.{alias_limit, page_limit, put_limit, text_limit}
use Rattle.doc_store_readers.specs.Readers.{ReaderTable}
use Rattle.doc_store_readers.specs.declared.reader.Reader.{Reader}
use Rattle.doc_media.specs.Media.{Media}
use Rattle.doc_hub_asking.specs.Asking.{known_of}
use Rattle.doc_people.specs.declared.settings.Settings.{Settings}
use Rattle.doc_http.specs.declared.request.Request.{Request}
use Rattle.doc_http.specs.declared.request.Next.TheVariants as nexts
use Rattle.doc_hub.specs.Connections.{backlog_limit}
use Rattle.doc_hub_replies.specs.Edits.{puts_left}
use Rattle.doc_hub.specs.FreshLaws.{IsAnswered, StepSays, TakesPut, first_connection, fresh, fresh_for, only_reader}
use Rattle.doc_hub_replies.specs.Replies.{Renders}
use Rattle.doc_hub.specs.Runs.{Happened, Runs}
use Rattle.doc_hub.specs.StepLaws.{media_seen, site_seen}
use Rattle.doc_hub.specs.Worlds.{IsApart, World, asking_of, new_world, token_of}
use Rattle.doc_store.specs.declared.site_edit.SiteEdit.{SiteEdit}
use Rattle.doc_store.specs.declared.site_edit.SiteEdit.TheVariants as site_edits
use Rattle.doc_hub_events.specs.declared.event.ConnectionEvent.{ConnectionEvent}
use Rattle.doc_hub_events.specs.declared.event.ConnectionEvent.TheVariants as calls
use Rattle.doc_hub_events.specs.declared.event.Event.{Event}
use Rattle.doc_hub_events.specs.declared.event.Event.TheVariants as events
use Rattle.doc_hub_events.specs.declared.event.Step.{Step}

-- a site within the limits of a store: each alias leads to a page, and there are no more pages, aliases and bytes of a text than may be
pub record IsWithin (site : Site) : Type 0 where
  pub is_site : IsSite site
  pub pages : map.len site.pages ≤ page_limit
  pub aliases : map.len site.aliases ≤ alias_limit
  pub texts : (path : List ℕ) (page : Page) → map.get site.pages path ≡ Some page → length page.text ≤ text_limit

-- what makes a fresh server of a new hub: puts and moves, then a connection and the bytes that came on it
abbrev pub IsMakingOn : ConnectionEvent → Type 0
IsMakingOn (calls.Push bytes) = ⊤
IsMakingOn other = ⊥

abbrev pub IsMakingEdit : SiteEdit → Type 0
IsMakingEdit (site_edits.Remove path) = ⊥
IsMakingEdit other = ⊤

abbrev pub IsMakingEvent : Event → Type 0
IsMakingEvent events.Connect = ⊤
IsMakingEvent (events.On id call) = IsMakingOn call
IsMakingEvent (events.Site edit) = IsMakingEdit edit
IsMakingEvent other = ⊥

abbrev pub IsMaking : Happened → Type 0
IsMaking h = IsMakingEvent h.event

-- as many puts and moves as a site has pages and aliases
abbrev pub makings : Site → ℕ
makings site = map.len site.pages + map.len site.aliases

-- a run of nothing else makes the fresh server of a new hub with that reader alone and with these media
pub record IsMade (render : Renders) (site : Site) (media : Media) (token : Option (List ℕ)) (reader : Option Reader) (settings : Settings)
    (unread : List ℕ)
    : Type 0 where
  pub run : List Happened
  pub making : All IsMaking run
  pub runs : Runs render (new_world (only_reader token reader) settings media) run
      (fresh (makings site) site media token reader settings unread)
  pub left : puts_left (makings site) ≡ true

-- The fresh server of a site within the limits, of which no path is a medium's, with no more unread bytes than a connection may have, is a
-- world that a hub can be in.
abbrev pub FreshIsMade : Type 0
FreshIsMade =
    (render : Renders) (site : Site) (media : Media) (token : Option (List ℕ)) (reader : Option Reader) (settings : Settings)
    (unread : List ℕ)
    → IsWithin site → IsApart site media → length unread ≤ backlog_limit → IsMade render site media token reader settings unread

-- what a step answered to a request, a hub answers that was new with that reader alone and with the media beside the view, in which the
-- pages of the view were put, its aliases made by moves, and nothing else was done
abbrev pub SendsAsMade : Renders → Happened → Type 0
SendsAsMade render h =
    (unread : List ℕ) (used : ℕ) (request : Request) (said : Step) → IsAnswered h unread (nexts.Request used request) said
    → TakesPut h.world (nexts.Request used request)
    → IsMade render (site_seen h.world request) (media_seen h.world request) (token_of h.world request)
    (known_of (asking_of h.world request)) h.world.settings unread
    × StepSays render (fresh_for (makings (site_seen h.world request)) h.world unread (nexts.Request used request)) first_connection said

-- Noninterference by hubs alone: in a run of fewer than 2^64 - 1 events from a new hub each request is answered so.
abbrev pub MadeReplies : Type 0
MadeReplies =
    (render : Renders) (readers : ReaderTable) (settings : Settings) (media : Media) (v : World) (run : List Happened)
    → Runs render (new_world readers settings media) run v → nat_lt (length run) put_limit ≡ true → All (SendsAsMade render) run
