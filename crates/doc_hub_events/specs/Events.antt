-- Events, what the call of each answers, and how a run tells it.
use Rattle.std.specs.Prelude.{ℕ, List, Bool, Result, Ok, Err}
use Rattle.doc_store.specs.declared.moving.MoveError.{MoveError}
use Rattle.doc_store.specs.declared.moving.MoveError.TheVariants as move_errors
use Rattle.doc_store_readers.specs.declared.readers.ReaderError.{ReaderError}
use Rattle.doc_store_readers.specs.declared.readers.ReaderError.TheVariants as reader_errors
use Rattle.doc_store_readers.specs.declared.readers.Set.{Set}
use Rattle.doc_store.specs.declared.store.EditError.{EditError}
use Rattle.doc_store.specs.declared.store.EditError.TheVariants as edit_errors
use Rattle.doc_store.specs.declared.store.Put.{Put}
use Rattle.doc_store.specs.declared.site_edit.SiteEdit.{SiteEdit}
use Rattle.doc_store.specs.declared.site_edit.SiteEdit.TheVariants as site_edits
use Rattle.doc_hub_events.specs.declared.event.ConnId.{ConnId}
use Rattle.doc_hub_events.specs.declared.event.ConnectionEvent.{ConnectionEvent}
use Rattle.doc_hub_events.specs.declared.event.ConnectionEvent.TheVariants as calls
use Rattle.doc_hub_events.specs.declared.event.Event.{Event}
use Rattle.doc_hub_events.specs.declared.event.Event.TheVariants as events
use Rattle.doc_hub_events.specs.declared.event.ReaderEdit.{ReaderEdit}
use Rattle.doc_hub_events.specs.declared.event.ReaderEdit.TheVariants as reader_edits
use Rattle.doc_hub_events.specs.declared.event.Step.{Step}
use Rattle.doc_hub_events.specs.declared.outcome.Outcome.{Outcome}
use Rattle.doc_hub_events.specs.declared.outcome.Outcome.TheVariants as outcomes
use Rattle.doc_hub_events.specs.declared.refusal.ConnectError.{ConnectError}
use Rattle.doc_hub_events.specs.declared.refusal.ConnectError.TheVariants as connect_errors
use Rattle.doc_hub_events.specs.declared.refusal.MediaSetError.{MediaSetError}
use Rattle.doc_hub_events.specs.declared.refusal.MediaSetError.TheVariants as media_errors
use Rattle.doc_hub_events.specs.declared.refusal.PushError.{PushError}
use Rattle.doc_hub_events.specs.declared.refusal.PushError.TheVariants as push_errors
use Rattle.doc_hub_events.specs.declared.refusal.Refusal.{Refusal}
use Rattle.doc_hub_events.specs.declared.refusal.Refusal.TheVariants as refusals
use Rattle.doc_hub_events.specs.declared.refusal.StepError.{StepError}
use Rattle.doc_hub_events.specs.declared.refusal.StepError.TheVariants as step_errors

-- the events of a connection
abbrev pub push_on : ConnId → List ℕ → Event
push_on id bytes = events.On id (calls.Push bytes)

abbrev pub step_on : ConnId → Event
step_on id = events.On id calls.Step

abbrev pub disconnect_on : ConnId → Event
disconnect_on id = events.On id calls.Disconnect

-- ---- what the call of an event answers

abbrev pub SaidOn : ConnectionEvent → Type 0
SaidOn (calls.Push bytes) = Result (Unit {0}) PushError
SaidOn calls.Step = Result Step StepError
SaidOn calls.Disconnect = Bool

abbrev pub SaidSite : SiteEdit → Type 0
SaidSite (site_edits.Put path groups text) = Result Put EditError
SaidSite (site_edits.Remove path) = Bool
SaidSite (site_edits.Move from to) = Result (Unit {0}) MoveError

abbrev pub SaidReader : ReaderEdit → Type 0
SaidReader (reader_edits.Set token reader) = Result Set ReaderError
SaidReader (reader_edits.Remove token) = Bool
SaidReader (reader_edits.All readers) = Result (Unit {0}) ReaderError

abbrev pub Said : Event → Type 0
Said events.Connect = Result ConnId ConnectError
Said (events.On id call) = SaidOn call
Said (events.Site edit) = SaidSite edit
Said (events.Reader edit) = SaidReader edit
Said (events.TakePuts takes) = Unit {0}
Said (events.SetMedia media) = Result (Unit {0}) MediaSetError

-- ---- the refusals of the calls, under their own names

abbrev pub connect_refusal : ConnectError → Refusal
connect_refusal connect_errors.NoIds = refusals.NoIds
connect_refusal connect_errors.Memory = refusals.Memory

abbrev pub push_refusal : PushError → Refusal
push_refusal push_errors.NoConnection = refusals.NoConnection
push_refusal push_errors.Closed = refusals.Closed
push_refusal push_errors.Backlog = refusals.Backlog
push_refusal push_errors.Memory = refusals.Memory

abbrev pub step_refusal : StepError → Refusal
step_refusal step_errors.NoConnection = refusals.NoConnection
step_refusal step_errors.Memory = refusals.Memory

abbrev pub edit_refusal : EditError → Refusal
edit_refusal edit_errors.Taken = refusals.Taken
edit_refusal edit_errors.TooLong = refusals.TooLong
edit_refusal edit_errors.StoreFull = refusals.StoreFull
edit_refusal edit_errors.Memory = refusals.Memory

abbrev pub move_refusal : MoveError → Refusal
move_refusal move_errors.NoPage = refusals.NoPage
move_refusal move_errors.Taken = refusals.Taken
move_refusal move_errors.StoreFull = refusals.StoreFull
move_refusal move_errors.Memory = refusals.Memory

abbrev pub reader_refusal : ReaderError → Refusal
reader_refusal reader_errors.BadToken = refusals.BadToken
reader_refusal reader_errors.Memory = refusals.Memory

abbrev pub media_refusal : MediaSetError → Refusal
media_refusal media_errors.Taken = refusals.Taken
media_refusal media_errors.Memory = refusals.Memory

-- ---- the calls' answers as outcomes

abbrev pub connecting : Result ConnId ConnectError → Outcome
connecting (Ok id) = outcomes.Conn id
connecting (Err e) = outcomes.Refused (connect_refusal e)

abbrev pub pushing : Result (Unit {0}) PushError → Outcome
pushing (Ok done) = outcomes.Pushed
pushing (Err e) = outcomes.Refused (push_refusal e)

abbrev pub stepping : Result Step StepError → Outcome
stepping (Ok step) = outcomes.Stepped step
stepping (Err e) = outcomes.Refused (step_refusal e)

abbrev pub putting : Result Put EditError → Outcome
putting (Ok done) = outcomes.Edited done
putting (Err e) = outcomes.Refused (edit_refusal e)

abbrev pub moving : Result (Unit {0}) MoveError → Outcome
moving (Ok done) = outcomes.Moved
moving (Err e) = outcomes.Refused (move_refusal e)

abbrev pub setting : Result Set ReaderError → Outcome
setting (Ok done) = outcomes.ReaderSet done
setting (Err e) = outcomes.Refused (reader_refusal e)

abbrev pub setting_all : Result (Unit {0}) ReaderError → Outcome
setting_all (Ok done) = outcomes.ReadersSet
setting_all (Err e) = outcomes.Refused (reader_refusal e)

abbrev pub setting_media : Result (Unit {0}) MediaSetError → Outcome
setting_media (Ok done) = outcomes.MediaSet
setting_media (Err e) = outcomes.Refused (media_refusal e)

abbrev pub outcome_on : (call : ConnectionEvent) → SaidOn call → Outcome
outcome_on (calls.Push bytes) said = pushing said
outcome_on calls.Step said = stepping said
outcome_on calls.Disconnect said = outcomes.Disconnected said

abbrev pub outcome_of_site : (edit : SiteEdit) → SaidSite edit → Outcome
outcome_of_site (site_edits.Put path groups text) said = putting said
outcome_of_site (site_edits.Remove path) said = outcomes.Removed said
outcome_of_site (site_edits.Move from to) said = moving said

abbrev pub outcome_of_reader : (edit : ReaderEdit) → SaidReader edit → Outcome
outcome_of_reader (reader_edits.Set token reader) said = setting said
outcome_of_reader (reader_edits.Remove token) said = outcomes.ReaderRemoved said
outcome_of_reader (reader_edits.All readers) said = setting_all said

-- what a call answered, as a run tells it
abbrev pub outcome_of : (event : Event) → Said event → Outcome
outcome_of events.Connect said = connecting said
outcome_of (events.On id call) said = outcome_on call said
outcome_of (events.Site edit) said = outcome_of_site edit said
outcome_of (events.Reader edit) said = outcome_of_reader edit said
outcome_of (events.TakePuts takes) said = outcomes.PutsSet
outcome_of (events.SetMedia media) said = setting_media said
