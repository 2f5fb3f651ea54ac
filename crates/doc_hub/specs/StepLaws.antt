-- Step noninterference: an answer depends on the site only by what its reader may see of it.
use Rattle.std.specs.Prelude.{◌≡◌, ℕ, List, Bool, true, false, ◌&&◌, bytes_eq, codes, Option, Some, None, Ok, ⊤}
use Rattle.std.specs.FinMap as map
use Rattle.doc_store_readers.specs.declared.reader.Reader.{Reader}
use Rattle.doc_store_readers.specs.Readers.{ReaderTable}
use Rattle.doc_store_readers.specs.Sites.{Site, visible_to}
use Rattle.doc_media.specs.Media.{Media, media_visible_to}
use Rattle.doc_http.specs.Requests.{IsNext}
use Rattle.doc_http.specs.declared.request.Request.{Request}
use Rattle.doc_http.specs.declared.request.Next.{Next}
use Rattle.doc_http.specs.declared.request.Next.TheVariants as nexts
use Rattle.doc_hub.specs.declared.connection.Connection.{Connection}
use Rattle.doc_hub_events.specs.declared.event.ConnId.{ConnId}
use Rattle.doc_hub_events.specs.declared.event.Event.TheVariants as events
use Rattle.doc_hub_events.specs.declared.event.ReaderEdit.TheVariants as reader_edits
use Rattle.doc_hub_events.specs.Events.{step_on}
use Rattle.doc_hub_events.specs.declared.event.Step.{Step}
use Rattle.doc_hub_replies.specs.Edits.{puts_taken}
use Rattle.doc_hub_replies.specs.Replies.{Renders}
use Rattle.doc_hub.specs.Runs.{Happens}
use Rattle.doc_hub.specs.Worlds.{World, answer_in, asking_of, reader_of}

-- what the reader of a request may see of a world's site
abbrev pub site_seen : World → Request → Site
site_seen w request = visible_to w.site (reader_of w request)

-- and of its media
abbrev pub media_seen : World → Request → Media
media_seen w request = media_visible_to w.media (reader_of w request)

-- whether the request is a PUT of an owner, the one whose answer knows whether puts are taken and one is left
abbrev pub is_owners_put : Option Reader → Request → Bool
is_owners_put None request = false
is_owners_put (Some reader) request = reader.owner && bytes_eq request.method (codes "PUT")

-- two worlds are alike for a request: the same settings, the same who asks, one view, and the same media beside it; and where an owner puts
-- a page, a put is taken in both or in neither
pub record Agree (w v : World) (request : Request) : Type 0 where
  pub settings : w.settings ≡ v.settings
  pub asking : asking_of w request ≡ asking_of v request
  pub sites : site_seen w request ≡ site_seen v request
  pub beside : media_seen w request ≡ media_seen v request
  pub puts : is_owners_put (reader_of w request) request ≡ true → puts_taken w.takes_puts w.puts ≡ puts_taken v.takes_puts v.puts

-- alike for what the unread bytes begin with: a fault, and what is no request yet, ask for nothing
abbrev pub AgreeOn : World → World → Next → Type 0
AgreeOn w v (nexts.Request used request) = Agree w v request
AgreeOn w v next = ⊤

-- worlds that are alike for a request answer it alike, with the same edit
abbrev pub AnswersAlike : Type 0
AnswersAlike = (render : Renders) (w v : World) (request : Request) → Agree w v request
    → answer_in render w request ≡ answer_in render v request

-- where all readers are set anew, a request of whoever asks by the new ones as by the old ones is answered as before
abbrev pub NewReadersAlike : Type 0
NewReadersAlike =
    (render : Renders) (w v : World) (readers : ReaderTable) (request : Request)
    → Happens render w (events.Reader (reader_edits.All readers)) v (Ok tt) → asking_of w request ≡ asking_of v request
    → answer_in render w request ≡ answer_in render v request

abbrev pub connection : ℕ → World → Option Connection
connection c w = map.get w.connections c

-- an open connection with these unread bytes
abbrev pub open_with : List ℕ → Connection
open_with unread = record { unread = unread; closed = false }

-- the connection is open, and its unread bytes begin so
pub record Begins (w : World) (c : ConnId) (next : Next) : Type 0 where
  pub unread : List ℕ
  pub stands : connection c.0 w ≡ Some (open_with unread)
  pub begins : IsNext unread next

-- Step noninterference: steps of open connections whose unread bytes begin alike, in worlds that are alike for that, do the same and
-- send equal bytes, where both are answered.
abbrev pub StepsAlike : Type 0
StepsAlike =
    (render : Renders) (w v w' v' : World) (c d : ConnId) (next : Next) (said told : Step)
    → Begins w c next → Begins v d next → AgreeOn w v next
    → Happens render w (step_on c) w' (Ok said) → Happens render v (step_on d) v' (Ok told)
    → said ≡ told
