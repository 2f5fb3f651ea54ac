-- What a reload leaves of replies; the proofs are in proofs/.
use Rattle.std.specs.Prelude.{◌≡◌, ℕ, List, true, All, Ok}
use Rattle.doc_media.specs.Media.{Media, media_visible_to}
use Rattle.doc_store_readers.specs.Sites.{visible_to}
use Rattle.doc_store.specs.Store.{StoreState}
use Rattle.doc_store.specs.declared.site_edit.SiteEdit.{SiteEdit}
use Rattle.doc_http.specs.declared.request.Request.{Request}
use Rattle.doc_http.specs.declared.request.Next.TheVariants as nexts
use Rattle.doc_hub.specs.Edits.{puts_taken}
use Rattle.doc_hub.specs.Replies.{Renders}
use Rattle.doc_hub_events.specs.Events.{step_on}
use Rattle.doc_hub_events.specs.declared.event.ConnId.{ConnId}
use Rattle.doc_hub_events.specs.declared.event.Event.TheVariants as events
use Rattle.doc_hub_events.specs.declared.event.Step.{Step}
use Rattle.doc_hub.specs.Runs.{Happened, Happens, Runs}
use Rattle.doc_hub.specs.StepLaws.{Begins, is_owners_put, media_seen}
use Rattle.doc_hub.specs.Worlds.{World, answer_in, reader_of, store_of, with_media, with_store}

-- the reader of a request may see in the store's site what they may see in the world's, pages and aliases
abbrev pub SeesTheSame : World → StoreState → Request → Type 0
SeesTheSame w store request = visible_to w.site (reader_of w request) ≡ visible_to store.site (reader_of w request)

-- and among other media the same as among the world's
abbrev pub SeesTheSameMedia : World → Media → Request → Type 0
SeesTheSameMedia w media request = media_seen w request ≡ media_visible_to media (reader_of w request)

-- where the request is a PUT of an owner, a put is taken before and behind, or neither time
abbrev pub TakesTheSame : World → StoreState → Request → Type 0
TakesTheSame w store request =
    is_owners_put (reader_of w request) request ≡ true → puts_taken w.takes_puts w.puts ≡ puts_taken w.takes_puts store.puts

-- A reload that changes nothing that a reader may see changes no reply of theirs. A reload leaves the world with another store and other
-- media, and with the same readers, settings and connections. Each request of a reader who may see the same has the same answer: its bytes,
-- whether it closes, and its edit; and a step of a connection that is open and begins with that request sends the same bytes and does the
-- same, where both are answered.
pub record HiddenReloadsChangeNoReply : Type 0 where
  pub answers : (render : Renders) (w : World) (store : StoreState) (media : Media) (request : Request) → SeesTheSame w store request
      → SeesTheSameMedia w media request → TakesTheSame w store request
      → answer_in render w request ≡ answer_in render (with_media (with_store w store) media) request
  pub steps : (render : Renders) (w w' v' : World) (store : StoreState) (media : Media) (c : ConnId) (used : ℕ) (request : Request)
      (said told : Step) → SeesTheSame w store request → SeesTheSameMedia w media request → TakesTheSame w store request
      → Begins w c (nexts.Request used request) → Happens render w (step_on c) w' (Ok said)
      → Happens render (with_media (with_store w store) media) (step_on c) v' (Ok told) → said ≡ told

-- an edit of the site
abbrev pub IsSiteEdit : Happened → Type 0
IsSiteEdit h = (edit : SiteEdit) × (h.event ≡ events.Site edit)

-- a run of edits of the site leaves the world with another store, and all else as it was
abbrev pub SiteEditsLeaveTheRest : Type 0
SiteEditsLeaveTheRest = (render : Renders) (w v : World) (run : List Happened) → Runs render w run v → All IsSiteEdit run
    → v ≡ with_store w (store_of v)
