-- What a reload of pages does to a hub and to its journal. All of this is this project's choice.
use Rattle.std.specs.Prelude.{◌≡◌, ◌≤◌, ◌+◌, ◌*◌, ◌⊎◌, ⊤, ℕ, List, [], nat_le, Bool, true, false, length, All, Contains, Option, Some, None, option_map}
use Rattle.std.specs.Prelude.{IfSome, Result, Ok, Err}
use Rattle.std.specs.FinMap as map
use Rattle.std.specs.List.{filter}
use Rattle.doc_hub.specs.Runs.{Happened, Runs}
use Rattle.doc_hub.specs.Worlds.{IsApart, World, are_apart, store_of, with_media}
use Rattle.doc_hub.specs.Replies.{Renders}
use Rattle.doc_hub_events.specs.declared.event.Event.{Event}
use Rattle.doc_hub_events.specs.declared.event.Event.TheVariants as events
use Rattle.doc_hub_events.specs.declared.refusal.MediaSetError.{MediaSetError}
use Rattle.doc_hub_events.specs.declared.refusal.MediaSetError.TheVariants as media_errors
use Rattle.doc_media.specs.Media.{Media}
use Rattle.doc_server_journal.specs.Journals.{IsOpen}
use Rattle.doc_server_journal.specs.declared.journal.Journal.{Journal}
use Rattle.doc_server_reload.specs.Leads.{led}
use Rattle.doc_server_reload.specs.RestoredLaws.{RestoredSitesAreOfCalls, WhatIsLedIsRestored}
pub use Rattle.doc_server_reload.specs.RestoredLaws.{pages_alone}
use Rattle.doc_server_reload.specs.Texts.{moved_to}
use Rattle.doc_server_reload.specs.declared.anew.TextsFault.{TextsFault}
use Rattle.doc_server_reload.specs.declared.anew.TextsFault.TheVariants as texts_faults
use Rattle.doc_server_restore.specs.Restores.{all_made, restored, unstamped}
use Rattle.doc_server_restore.specs.declared.fault.RestoreFault.{RestoreFault}
use Rattle.doc_server_restore.specs.declared.fault.RestoreFault.TheVariants as restore_faults
use Rattle.doc_server_settling.specs.Reserves.{removal_most, takes_removals_of}
use Rattle.doc_server_settling.specs.declared.fault.TurnFault.TheVariants as turn_faults
use Rattle.doc_store.specs.Store.{StoreState, page_limit, stamp_after}
use Rattle.doc_store.specs.declared.site_edit.SiteEdit.{SiteEdit}
use Rattle.doc_store.specs.declared.site_edit.SiteEdit.TheVariants as site_edits
use Rattle.doc_store_readers.specs.Sites.{IsSite}
use Rattle.doc_server_network.specs.Crashes.{OfBoth}
use Rattle.doc_server_network.specs.Saved.{no_lines}
use Rattle.doc_server_network.specs.declared.lead.Lead.{Lead}
use Rattle.doc_server_network.specs.declared.reload_fault.Refusal.{Refusal}
use Rattle.doc_server_network.specs.declared.reload_fault.Refusal.TheVariants as refusals
use Rattle.doc_server_network.specs.declared.reload_fault.ReloadFault.{ReloadFault}
use Rattle.doc_server_network.specs.declared.reload_fault.ReloadFault.TheVariants as faults
use Rattle.doc_server_network.specs.declared.saved_hub.SavedHub.{SavedHub}

-- ---- what came of it

abbrev pub of_texts : TextsFault → ReloadFault
of_texts texts_faults.Memory = faults.Refused refusals.Memory
of_texts texts_faults.Failed = faults.Ends turn_faults.CannotWrite
of_texts _ = faults.Refused refusals.Other

abbrev pub of_restore : RestoreFault → ReloadFault
of_restore restore_faults.Memory = faults.Refused refusals.Memory
of_restore fault = faults.Refused (refusals.Record fault)

abbrev pub of_media : MediaSetError → Refusal
of_media media_errors.Taken = refusals.Taken
of_media media_errors.Memory = refusals.Memory

-- this holds unless the server ends
abbrev pub UnlessEnds : {A : Type 0} → Result A ReloadFault → Type 0 → Type 0
UnlessEnds (Ok x) P = P
UnlessEnds (Err (faults.Refused refusal)) P = P
UnlessEnds (Err (faults.Ends fault)) P = ⊤

-- this holds where it is refused
abbrev pub IfRefused : {A : Type 0} → Result A ReloadFault → (Refusal → Type 0) → Type 0
IfRefused (Err (faults.Refused refusal)) P = P refusal
IfRefused other P = ⊤

-- this holds where the journal's device is why the server ends
abbrev pub IfCannotWrite : {A : Type 0} → Result A ReloadFault → Type 0 → Type 0
IfCannotWrite (Err (faults.Ends turn_faults.CannotWrite)) P = P
IfCannotWrite other P = ⊤

-- how many pages some edits put, and how many they remove
abbrev pub is_put : SiteEdit → Bool
is_put (site_edits.Put path groups text) = true
is_put edit = false

abbrev pub is_removal : SiteEdit → Bool
is_removal (site_edits.Remove path) = true
is_removal edit = false

abbrev pub count_of_puts : List SiteEdit → ℕ
count_of_puts edits = length (filter is_put edits)

abbrev pub count_of_removals : List SiteEdit → ℕ
count_of_removals edits = length (filter is_removal edits)

-- the same hub beside other media
abbrev pub beside : {D R : Type 0} → Media → SavedHub D R → SavedHub D R
beside media saved = record saved { hub = (saved.hub.0, with_media saved.hub.1 media) }

-- ---- what a start would serve

-- A site that a start would serve now: the pages of a configuration, and on them the edits of the records of these texts, beside media.
pub record IsOfStart (config : StoreState) (media : Media) (texts : List (List ℕ)) (again : StoreState) : Type 0 where
  pub gives : restored media (unstamped config) texts ≡ Ok (unstamped again)

-- what a reload leaves is restored by a start, and what a start restores is as calls make it
abbrev pub ReloadsAreRestored : Type 0
ReloadsAreRestored = WhatIsLedIsRestored × RestoredSitesAreOfCalls

-- an edit on the way from some site to one that a start over these pages would serve
pub record IsOnTheWay (config : StoreState) (edit : SiteEdit) : Type 0 where
  pub media : Media
  pub texts : List (List ℕ)
  pub old : World
  pub again : StoreState
  pub is : IsOfStart config media texts again
  pub one : Contains (led old.site again.site) edit

-- an event that is such an edit
abbrev pub IsReloading : StoreState → Event → Type 0
IsReloading config (events.Site edit) = IsOnTheWay config edit
IsReloading config event = ⊥

-- a run of such edits alone leads from one world to the other
pub record Reloads (config : StoreState) (render : Renders) (w v : World) : Type 0 where
  pub run : List Happened
  pub runs : Runs render w run v
  pub own : All (λ h. IsReloading config h.event) run

-- whether a journal with so much room takes the removal of so many pages; where there is no journal nothing is asked
abbrev pub has_room_for : Option ℕ → ℕ → Bool
has_room_for None pages = true
has_room_for (Some room) pages = takes_removals_of room pages

-- the same, as what there is
abbrev pub RemovalsFit : Option ℕ → ℕ → Type 0
RemovalsFit None pages = ⊤
RemovalsFit (Some room) pages = (pages ≤ page_limit) × ((pages + 1) * removal_most ≤ room)

-- Whether a hub has counted as many puts as records make behind those of a configuration, by the next stamps of what they make, of the
-- configuration's pages and of the hub's. A journal's own records make no more.
abbrev pub is_counted : Option ℕ → Option ℕ → Option ℕ → Bool
is_counted (Some again) (Some config) (Some hub) = nat_le again (config + hub)
is_counted again config hub = false

abbrev pub has_counted : StoreState → StoreState → World → Bool
has_counted again config w = is_counted (stamp_after again.puts) (stamp_after config.puts) (stamp_after w.puts)

-- Why what a start would serve isn't served: it would refuse a record; or there is no room for what it leaves; or the hub hasn't counted so
-- many puts; or memory was lacking.
abbrev pub IsStoppedBy : StoreState → World → Option ℕ → List (List ℕ) → Refusal → Type 0
IsStoppedBy config w room texts (refusals.Record fault) = restored w.media (unstamped config) texts ≡ Err fault
IsStoppedBy config w room texts refusals.Full =
    (again : StoreState) × IsOfStart config w.media texts again × (has_room_for room (map.len again.site.pages) ≡ false)
IsStoppedBy config w room texts refusals.Other =
    (again : StoreState) × IsOfStart config w.media texts again × (has_counted again config w ≡ false)
IsStoppedBy config w room texts refusals.Taken = ⊥
IsStoppedBy config w room texts refusals.Memory = ⊤

-- the journal is as before, or there is none: its device alone was asked
abbrev pub IsJustRead : {D : Type 0} → Option (Journal D) → Option (Journal D) → Type 0
IsJustRead old new = OfBoth (λ before behind. behind ≡ moved_to before behind.device) old new

module _ {D : Type 0} (seen : D → Option (List ℕ)) (may_leave : D → List ℕ → Type 0) (failed : D → Bool) (stale : D → ℕ
    → Type 0) where
  -- the journal, where there is one, is open with these texts; without one there are none
  abbrev pub AreTexts : Option (Journal D) → List (List ℕ) → Type 0
  AreTexts None texts = texts ≡ []
  AreTexts (Some journal) texts = IsOpen seen may_leave failed stale journal texts

  -- there is a journal, and its file isn't known
  abbrev pub IsUnknown : Option (Journal D) → Type 0
  IsUnknown None = ⊥
  IsUnknown (Some journal) = seen journal.device ≡ None

  -- why the records of a journal aren't read anew: its file isn't known, or memory was lacking
  abbrev pub IsUnread : Option (Journal D) → Refusal → Type 0
  IsUnread journal refusals.Other = IsUnknown journal
  IsUnread journal refusals.Memory = ⊤
  IsUnread journal refusal = ⊥

  -- Why a reload is refused: a medium has the path of a page that stands; or the file isn't known to be the journal's; or with its records
  -- it is stopped. The world is the one of before, beside the media to come.
  abbrev pub IsRefusedFor : StoreState → World → Option (Journal D) → Refusal → Type 0
  IsRefusedFor config w journal refusals.Memory = ⊤
  IsRefusedFor config w journal refusals.Taken = are_apart w.site w.media ≡ false
  IsRefusedFor config w journal refusal =
      ((refusal ≡ refusals.Other) × IsUnknown journal)
      ⊎ ((texts : List (List ℕ)) × AreTexts journal texts
      × IsStoppedBy config w (option_map (λ j. j.room) journal) texts refusal)

  -- The site that stands is the one that a start over these pages would serve, with so many records.
  pub record IsRestarted (config : StoreState) (journal : Option (Journal D)) (w : World) (records : ℕ) : Type 0 where
    pub texts : List (List ℕ)
    pub are_texts : AreTexts journal texts
    pub count : records ≡ length texts
    pub again : StoreState
    pub is : IsOfStart config w.media texts again
    pub site : w.site ≡ again.site

  module _ {R : Type 0} where
    -- A reload is under way. Its edits lead the site of the world in which it began to the one that a start over these pages would serve,
    -- with so many records. Some of them are made, and nothing else of the site, of its media and of the journal has changed since: no line
    -- waits, and the journal has room for the removal of each page of the site to come.
    pub record IsUnderWay (config : StoreState) (begin : World) (lead : Lead) (done : List SiteEdit) (saved : SavedHub D R) : Type 0 where
      pub texts : List (List ℕ)
      pub are_texts : AreTexts saved.journal texts
      pub count : lead.records ≡ length texts
      pub again : StoreState
      pub is : IsOfStart config begin.media texts again
      pub edits : lead.edits ≡ led begin.site again.site
      pub old_site : IsSite begin.site
      pub new_site : IsSite again.site
      pub counted : again.puts ≤ config.puts + begin.puts
      pub fits : RemovalsFit (option_map (λ j. j.room) saved.journal) (map.len again.site.pages)
      pub fresh : IfSome saved.journal (λ j. saved.unsaved ≡ no_lines j.room)
      pub made : all_made begin.media (store_of begin) done ≡ Some (store_of saved.hub.1)
      pub media : saved.hub.1.media ≡ begin.media
      pub apart : IsApart begin.site begin.media → IsApart saved.hub.1.site saved.hub.1.media
