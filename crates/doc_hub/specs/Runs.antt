-- Events one by one, and runs of many events over any number of connections.
use Rattle.std.specs.Prelude.{◌≡◌, ℕ, List, [], ◌∷◌, ◌==◌, Bool, false, Result, Ok, Err, flat_map, filter, map}
use Rattle.doc_page_parts.specs.Refusals.{Gives}
use Rattle.doc_page_parts.specs.declared.failure.Memory.{Memory}
use Rattle.doc_store.specs.declared.moving.MoveError.TheVariants as move_errors
use Rattle.doc_store_readers.specs.declared.readers.ReaderError.TheVariants as reader_errors
use Rattle.doc_store.specs.declared.store.EditError.TheVariants as edit_errors
use Rattle.doc_hub_events.specs.Events.{Said, SaidOn, SaidReader, SaidSite, outcome_of}
use Rattle.doc_hub_replies.specs.Replies.{Renders}
use Rattle.doc_hub.specs.Worlds.{World, connected, world_pushed, disconnected, world_put, world_removed, world_moved, world_reader_set}
use Rattle.doc_hub.specs.Worlds.{world_reader_removed, world_readers_set, world_media_set, world_taking, Steps}
use Rattle.doc_store.specs.declared.site_edit.SiteEdit.{SiteEdit}
use Rattle.doc_store.specs.declared.site_edit.SiteEdit.TheVariants as site_edits
use Rattle.doc_hub_events.specs.declared.event.ConnectionEvent.{ConnectionEvent}
use Rattle.doc_hub_events.specs.declared.event.ConnectionEvent.TheVariants as calls
use Rattle.doc_hub_events.specs.declared.event.Event.{Event}
use Rattle.doc_hub_events.specs.declared.event.Event.TheVariants as events
use Rattle.doc_hub_events.specs.declared.event.ReaderEdit.{ReaderEdit}
use Rattle.doc_hub_events.specs.declared.event.ReaderEdit.TheVariants as reader_edits
use Rattle.doc_hub_events.specs.declared.event.Step.{Step}
use Rattle.doc_hub_events.specs.declared.event.Step.TheVariants as steps
use Rattle.doc_hub_events.specs.declared.outcome.Outcome.{Outcome}
use Rattle.doc_hub_events.specs.declared.outcome.Outcome.TheVariants as outcomes
use Rattle.doc_hub_events.specs.declared.refusal.ConnectError.TheVariants as connect_errors
use Rattle.doc_hub_events.specs.declared.refusal.MediaSetError.TheVariants as media_errors
use Rattle.doc_hub_events.specs.declared.refusal.PushError.TheVariants as push_errors
use Rattle.doc_hub_events.specs.declared.refusal.Refusal.TheVariants as refusals

-- What a call leaves and answers, by what it is of: a connection, the site or the readers.
abbrev pub HappensOn : Renders → World → ℕ → (call : ConnectionEvent) → World → SaidOn call → Type 0
HappensOn render w id (calls.Push bytes) v said = Gives push_errors.Memory (world_pushed w id bytes) w v said
HappensOn render w id calls.Step v said = Steps render w id v said
HappensOn render w id calls.Disconnect v said = ◌≡◌ {A = World × Bool} (disconnected w id) (v, said)

abbrev pub HappensSite : World → (edit : SiteEdit) → World → SaidSite edit → Type 0
HappensSite w (site_edits.Put path groups text) v said = Gives edit_errors.Memory (world_put w path groups text) w v said
HappensSite w (site_edits.Remove path) v said = ◌≡◌ {A = World × Bool} (world_removed w path) (v, said)
HappensSite w (site_edits.Move from to) v said = Gives move_errors.Memory (world_moved w from to) w v said

abbrev pub HappensReader : World → (edit : ReaderEdit) → World → SaidReader edit → Type 0
HappensReader w (reader_edits.Set token reader) v said = Gives reader_errors.Memory (world_reader_set w token reader) w v said
HappensReader w (reader_edits.Remove token) v said = ◌≡◌ {A = World × Bool} (world_reader_removed w token) (v, said)
HappensReader w (reader_edits.All readers) v said = Gives reader_errors.Memory (world_readers_set w readers) w v said

-- The call of the event leaves this world and answers so, or memory ran out and the world is as before.
abbrev pub Happens : Renders → World → (event : Event) → World → Said event → Type 0
Happens render w events.Connect v said = Gives connect_errors.Memory (connected w) w v said
Happens render w (events.On id call) v said = HappensOn render w id.0 call v said
Happens render w (events.Site edit) v said = HappensSite w edit v said
Happens render w (events.Reader edit) v said = HappensReader w edit v said
Happens render w (events.TakePuts takes) v said = v ≡ world_taking w takes
Happens render w (events.SetMedia media) v said = Gives media_errors.Memory (world_media_set w media) w v said

-- The event leaves this world, and its outcome is what its call answers.
abbrev pub Leaves : Renders → World → Event → World → Outcome → Type 0
Leaves render w event v outcome = (said : Said event) × Happens render w event v said × (outcome ≡ outcome_of event said)

-- memory ran out
abbrev pub IsOutOfMemory : Outcome → Type 0
IsOutOfMemory outcome = outcome ≡ outcomes.Refused refusals.Memory

-- an event with the world that it met, and its outcome
pub record Happened : Type 0 where
  pub world : World
  pub event : Event
  pub outcome : Outcome

-- a run: each event meets the world that the one before left
pub data Runs (render : Renders) : World → List Happened → World → Type 0 where
  nothing : (w : World) → Runs render w [] w
  first : (w v u : World) (event : Event) (outcome : Outcome) (run : List Happened) → Leaves render w event v outcome → Runs render v run u
      → Runs render w (record { world = w; event = event; outcome = outcome } ∷ run) u

-- the events of a run, and their outcomes
abbrev pub events_in : List Happened → List Event
events_in run = map (λ h. h.event) run

abbrev pub outcomes_in : List Happened → List Outcome
outcomes_in run = map (λ h. h.outcome) run

-- a run of all these events, with their outcomes in order
pub record RunsAll (render : Renders) (events : List Event) (w v : World) (outcomes : List Outcome) : Type 0 where
  pub run : List Happened
  pub runs : Runs render w run v
  pub all : events_in run ≡ events
  pub told : outcomes_in run ≡ outcomes

-- A call for a run of events: all of them happen, or memory ran out before the first.
abbrev pub GivesRun : Renders → List Event → World → World → Result (List Outcome) Memory → Type 0
GivesRun render events old new (Ok told) = RunsAll render events old new told
GivesRun render events old new (Err e) = new ≡ old

-- what a step sends
abbrev pub bytes_of : Step → List ℕ
bytes_of (steps.Sent bytes) = bytes
bytes_of (steps.Last bytes) = bytes
bytes_of other = []

abbrev pub sent_by : Outcome → List ℕ
sent_by (outcomes.Stepped said) = bytes_of said
sent_by outcome = []

-- whether the outcome is this connection
abbrev pub is_made : ℕ → Outcome → Bool
is_made c (outcomes.Conn id) = c == id.0
is_made c outcome = false

-- whether an event with this outcome is on the connection: what makes it, its pushes and steps, and what drops it
abbrev pub is_on_by : ℕ → Event → Outcome → Bool
is_on_by c events.Connect outcome = is_made c outcome
is_on_by c (events.On id call) outcome = c == id.0
is_on_by c event outcome = false

abbrev pub is_on : ℕ → Happened → Bool
is_on c h = is_on_by c h.event h.outcome

abbrev pub events_on : ℕ → List Happened → List Happened
events_on c run = filter (is_on c) run

-- the bytes that a run sends on a connection
abbrev pub sent_on : ℕ → List Happened → List ℕ
sent_on c run = flat_map (λ h. sent_by h.outcome) (events_on c run)
