-- Noninterference, one reply after another: each is that of a fresh server which holds only what its reader may see.
use Rattle.std.specs.Prelude.{◌≡◌, ◌≤◌, ◌+◌, ℕ, All, List, length, nat_lt, true, Option, Some, None, Result, Ok, Err, ⊤}
use Rattle.std.specs.FinMap as map
use Rattle.doc_store_readers.specs.declared.reader.Reader.{Reader}
use Rattle.doc_store_readers.specs.Sites.{Site, empty_site}
use Rattle.doc_media.specs.Media.{Media}
use Rattle.doc_store.specs.Store.{put_limit}
use Rattle.doc_store_readers.specs.Readers.{ReaderTable, no_readers, with_reader}
use Rattle.doc_hub_asking.specs.Asking.{known_of}
use Rattle.doc_people.specs.declared.settings.Settings.{Settings}
use Rattle.doc_http.specs.Requests.{IsNext}
use Rattle.doc_http.specs.declared.request.Next.{Next}
use Rattle.doc_http.specs.declared.request.Next.TheVariants as nexts
use Rattle.doc_hub_events.specs.declared.event.ConnId.{ConnId}
use Rattle.doc_hub_events.specs.declared.event.Event.{Event}
use Rattle.doc_hub_events.specs.declared.event.Event.TheVariants as events
use Rattle.doc_hub_events.specs.Events.{step_on}
use Rattle.doc_hub_events.specs.declared.event.Step.{Step}
use Rattle.doc_hub_events.specs.declared.outcome.Outcome.TheVariants as outcomes
use Rattle.doc_hub_events.specs.declared.refusal.StepError.{StepError}
use Rattle.doc_hub_events.specs.declared.refusal.StepError.TheVariants as step_errors
use Rattle.doc_hub_replies.specs.Edits.{puts_left, puts_taken}
use Rattle.doc_hub_replies.specs.Replies.{Renders}
use Rattle.doc_hub.specs.Runs.{Happens, Happened, Runs}
use Rattle.doc_hub.specs.StepLaws.{connection, is_owners_put, media_seen, open_with, site_seen}
use Rattle.doc_hub.specs.Worlds.{World, asking_of, new_world, reader_of, token_of}

-- ---- the fresh server

-- that reader's entry alone, or none
abbrev pub only_reader : Option (List ℕ) → Option Reader → ReaderTable
only_reader (Some token) (Some reader) = with_reader no_readers token reader
only_reader token reader = no_readers

-- a server that takes puts and holds only this site with these media, after so many puts and moves, and this reader, with one connection
abbrev pub fresh : ℕ → Site → Media → Option (List ℕ) → Option Reader → Settings → List ℕ → World
fresh puts site media token reader settings unread =
    record {
      site = site;
      media = media;
      puts = puts;
      takes_puts = true;
      readers = only_reader token reader;
      settings = settings;
      given = 1;
      connections = map.insert map.empty 1 (open_with unread);
    }

-- the fresh server for a request, of what its reader may see in this world; where there is no request, any will do
abbrev pub fresh_for : ℕ → World → List ℕ → Next → World
fresh_for puts w unread (nexts.Request used request) =
    fresh puts (site_seen w request) (media_seen w request) (token_of w request) (known_of (asking_of w request)) w.settings unread
fresh_for puts w unread next = fresh puts empty_site None None None w.settings unread

abbrev pub first_connection : ConnId
first_connection = record { 0 = 1 }

-- ---- what a step answers

-- A step of the connection answers so: it may, and it answers nothing else, but where memory runs out.
pub record StepSays (render : Renders) (w : World) (c : ConnId) (said : Step) : Type 0 where
  pub left : World
  pub happens : Happens render w (step_on c) left (Ok said)
  pub alone : (v : World) (other : Result Step StepError) → Happens render w (step_on c) v other → ¬ (other ≡ Err step_errors.Memory)
      → other ≡ Ok said

-- a step of an open connection with these unread bytes, which begin so, that was answered
pub record IsAnswered (h : Happened) (unread : List ℕ) (next : Next) (said : Step) : Type 0 where
  pub c : ConnId
  pub event : h.event ≡ step_on c
  pub stands : connection c.0 h.world ≡ Some (open_with unread)
  pub begins : IsNext unread next
  pub told : h.outcome ≡ outcomes.Stepped said

-- where the unread bytes begin with a PUT of an owner, the server takes puts
abbrev pub TakesPut : World → Next → Type 0
TakesPut w (nexts.Request used request) = is_owners_put (reader_of w request) request ≡ true → w.takes_puts ≡ true
TakesPut w next = ⊤

-- and a put is left
abbrev pub LeavesPut : World → Next → Type 0
LeavesPut w (nexts.Request used request) =
    is_owners_put (reader_of w request) request ≡ true → puts_taken w.takes_puts w.puts ≡ true
LeavesPut w next = ⊤

-- a fresh server, however many puts and moves made it what it is, answers so
abbrev pub FreshAnswers : Renders → World → List ℕ → Next → Step → Type 0
FreshAnswers render w unread next said =
    (puts : ℕ) → puts_left puts ≡ true → StepSays render (fresh_for puts w unread next) first_connection said

-- what a step answered, where no put was refused for want of one, is what the step of that fresh server answers
abbrev pub SendsAsFresh : Renders → Happened → Type 0
SendsAsFresh render h =
    (unread : List ℕ) (next : Next) (said : Step) → IsAnswered h unread next said → LeavesPut h.world next
    → FreshAnswers render h.world unread next said

-- Noninterference: in any run, whatever other connections did and whatever growths were refused, each reply is that of a fresh server
-- that holds only what its reader may see at that step; that of a PUT of an owner, as long as puts are taken and one is left.
abbrev pub RepliesAsFresh : Type 0
RepliesAsFresh = (render : Renders) (w v : World) (run : List Happened) → Runs render w run v → All (SendsAsFresh render) run

-- ---- from a new server

-- no event makes more than one put or move
abbrev pub PutsAreCounted : Type 0
PutsAreCounted = (render : Renders) (w v : World) (run : List Happened) → Runs render w run v → v.puts ≤ w.puts + length run

-- no event but the one for that changes whether the server takes puts
abbrev pub IsNoTaking : Event → Type 0
IsNoTaking (events.TakePuts takes) = ⊥
IsNoTaking event = ⊤

abbrev pub TakingStands : Type 0
TakingStands =
    (render : Renders) (w v : World) (run : List Happened) → Runs render w run v → All (λ h. IsNoTaking h.event) run
    → v.takes_puts ≡ w.takes_puts

-- a run of fewer than 2^64 - 1 events from a new server leaves a put; and it is taken, where none of the events was to say whether to
abbrev pub PutsAreLeft : Type 0
PutsAreLeft =
    (render : Renders) (readers : ReaderTable) (settings : Settings) (media : Media) (v : World) (run : List Happened)
    → Runs render (new_world readers settings media) run v → nat_lt (length run) put_limit ≡ true
    → (puts_left v.puts ≡ true) × (All (λ h. IsNoTaking h.event) run → puts_taken v.takes_puts v.puts ≡ true)

-- what a step answered, where the server takes puts, is what the step of that fresh server answers, whether or not a put is left
abbrev pub SendsAsFreshAlways : Renders → Happened → Type 0
SendsAsFreshAlways render h =
    (unread : List ℕ) (next : Next) (said : Step) → IsAnswered h unread next said → TakesPut h.world next
    → FreshAnswers render h.world unread next said

-- Noninterference from a new server, in a run of fewer than 2^64 - 1 events: nothing is asked of how many puts were accepted.
abbrev pub NewRepliesAsFresh : Type 0
NewRepliesAsFresh =
    (render : Renders) (readers : ReaderTable) (settings : Settings) (media : Media) (v : World) (run : List Happened)
    → Runs render (new_world readers settings media) run v → nat_lt (length run) put_limit ≡ true → All (SendsAsFreshAlways render) run
