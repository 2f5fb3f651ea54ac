-- A hub whose edits are in a journal, or wait to be. All of this is this project's choice.
use Rattle.std.specs.Prelude.{◌≡◌, ◌≤◌, ◌+◌, ◌*◌, ◌-◌, ◌++◌, ◌∷◌, [], ⊤, ℕ, List, length, Bool, true, false, not, ◌&&◌, ◌||◌, nat_le, min}
use Rattle.std.specs.Prelude.{Option, Some, None, IfSome}
use Rattle.doc_hub.specs.Runs.{Happens}
use Rattle.doc_hub.specs.Worlds.{IsApart, World}
use Rattle.doc_hub.specs.Replies.{Renders}
use Rattle.doc_hub_events.specs.declared.event.Event.TheVariants as events
use Rattle.doc_server_journal.specs.Journals.{IsOpen, record_beside}
use Rattle.doc_server_journal.specs.declared.journal.Journal.{Journal}
use Rattle.doc_server_journal_records.specs.Records.{digest_behind, text_limit, time_of}
use Rattle.doc_server_reload.specs.KeptTurns.{IsOfCalls, IsRestored}
use Rattle.doc_server_listen.specs.Counting.{count_in}
use Rattle.doc_server_listen.specs.Edits.{Kept, has_room, longest_removal}
use Rattle.doc_server_listen.specs.Sites.{IsSameSite}
use Rattle.doc_server_network.specs.Crashes.{OfBoth}
use Rattle.doc_server_network.specs.declared.saved_hub.SavedHub.{SavedHub}
use Rattle.doc_server_script.specs.PageLines.{lines_of}
use Rattle.doc_server_settling.specs.Reserves.{grown_room, removal_most, reserve, takes_removals, used}
use Rattle.doc_store.specs.Store.{StoreState, page_limit}
use Rattle.doc_store.specs.declared.site_edit.SiteEdit.{SiteEdit}

-- ---- the lines that wait

-- no lines yet, in a journal of this room
abbrev pub no_lines : ℕ → Kept
no_lines room = record { lines = Some []; is_whole = true; most = min (room - record_beside) text_limit }

-- where there is a journal, no line waits and none is missing
abbrev pub HasAll : {D : Type 0} → Option (Journal D) → Kept → Type 0
HasAll None unsaved = ⊤
HasAll (Some journal) unsaved = (unsaved.lines ≡ Some []) × (unsaved.is_whole ≡ true)

abbrev pub IsAllSaved : {D R : Type 0} → SavedHub D R → Type 0
IsAllSaved k = HasAll k.journal k.unsaved

-- Whether one more step may be made: where there is a journal, it keeps its reserve while puts are taken, and there is room for the line of
-- one more edit.
abbrev pub takes_step : {D : Type 0} → Option (Journal D) → Kept → Bool → Bool
takes_step None unsaved takes_puts = true
takes_step (Some journal) unsaved takes_puts = (not takes_puts || nat_le reserve journal.room) && has_room unsaved takes_puts

abbrev pub may_step : {D R : Type 0} → SavedHub D R → Bool
may_step k = takes_step k.journal k.unsaved k.hub.1.takes_puts

-- behind a look at the journal's room puts are taken where it keeps its reserve; without a journal nothing happens
abbrev pub TakesByRoom : {D : Type 0} → Renders → Option (Journal D) → World → World → Type 0
TakesByRoom render None w v = v ≡ w
TakesByRoom render (Some journal) w v = Happens render w (events.TakePuts (nat_le reserve journal.room)) v tt

-- whether the journal, where there is one, has the room that a look asks for, which is so much more
abbrev pub has_grown : {D : Type 0} → ℕ → Option (Journal D) → Option (Journal D) → Bool
has_grown growth (Some old) (Some new) = nat_le (grown_room old.room growth) new.room
has_grown growth old new = true

-- the digest of a journal behind the record of these lines, which says how many seconds there were behind the beginning of 1970; where
-- there are no lines there is no record
abbrev pub digest_after : ℕ → List ℕ → List ℕ → List ℕ
digest_after seconds [] before = before
digest_after seconds (b ∷ lines) before = digest_behind before (record { time = time_of seconds; text = b ∷ lines })

abbrev pub IsOfTime : {D : Type 0} → ℕ → List ℕ → Journal D → Journal D → Type 0
IsOfTime seconds lines old new = new.digest ≡ digest_after seconds lines old.digest

-- where there is a journal, these lines were written to it at that time
abbrev pub WereWritten : {D : Type 0} → ℕ → List ℕ → Option (Journal D) → Option (Journal D) → Type 0
WereWritten seconds lines old new = OfBoth (IsOfTime seconds lines) old new

-- and so were some
abbrev pub WasWrittenAt : {D : Type 0} → ℕ → Option (Journal D) → Option (Journal D) → Type 0
WasWrittenAt seconds old new = (lines : List ℕ) × WereWritten seconds lines old new

-- whether the journal, where there is one, has room for the removal of each page
abbrev pub takes_all_removals : {D : Type 0} → Option (Journal D) → World → Bool
takes_all_removals None w = true
takes_all_removals (Some journal) w = takes_removals journal.room w

-- there is a journal, and its device has failed
abbrev pub HasFailed : {D : Type 0} → (D → Bool) → Option (Journal D) → Type 0
HasFailed failed None = ⊥
HasFailed failed (Some journal) = failed journal.device ≡ true

-- ---- what stays

-- A call changed neither the site, nor the journal, nor the lines that wait.
pub record IsUnedited {D R : Type 0} (old new : SavedHub D R) : Type 0 where
  pub site : IsSameSite old.hub.1 new.hub.1
  pub journal : new.journal ≡ old.journal
  pub unsaved : new.unsaved ≡ old.unsaved

-- ---- what is saved

-- The lines of some edits: behind the records of these texts they give the site of a world. Once they are written, too, as far as a record
-- takes them, the journal has room for the removal of each of its pages; and while no puts are taken, the next record takes so many lines
-- of removals beside them, and one more.
pub record Waits (config : StoreState) (texts : List (List ℕ)) (room most : ℕ) (w : World) (lines : List ℕ) : Type 0 where
  pub edits : List SiteEdit
  pub are : lines ≡ lines_of edits
  pub gives : IsRestored config (texts ++ lines ∷ []) w
  pub enough : length lines ≤ text_limit → (count_in w + 1) * removal_most + used lines ≤ room
  pub further : w.takes_puts ≡ false → length lines + (count_in w + 1) * longest_removal ≤ most

module _ {D : Type 0} (seen : D → Option (List ℕ)) (may_leave : D → List ℕ → Type 0) (failed : D → Bool) (stale : D → ℕ
    → Type 0) where
  -- The journal's records, made again over the configuration's pages, give the site at the turn's begin, and with the lines that wait,
  -- where none is missing, the site that stands. It is one as calls make it, apart from the media. The next record takes the lines.
  pub record IsSavedIn (config : StoreState) (begin : World) (journal : Journal D) (unsaved : Kept) (w : World) : Type 0 where
    pub texts : List (List ℕ)
    pub is_open : IsOpen seen may_leave failed stale journal texts
    pub began : IsRestored config texts begin
    pub waits : unsaved.is_whole ≡ true → (lines : List ℕ) × (unsaved.lines ≡ Some lines)
        × Waits config texts journal.room unsaved.most w lines
    pub of_calls : IsOfCalls w.site
    pub apart : IsApart w.site w.media
    pub limit : count_in w ≤ page_limit
    pub most : unsaved.most ≤ journal.room - record_beside

  module _ {R : Type 0} where
    -- the same of a hub, where it has a journal
    abbrev pub IsSaved : StoreState → World → SavedHub D R → Type 0
    IsSaved config begin k = IfSome k.journal (λ journal. IsSavedIn config begin journal k.unsaved k.hub.1)

    -- a call keeps it, over whatever configuration, and since whichever begin
    abbrev pub StaysSaved : SavedHub D R → SavedHub D R → Type 0
    StaysSaved old new = (config : StoreState) (begin : World) → IsSaved config begin old → IsSaved config begin new

    -- the records alone give the site that stands, and no line waits
    abbrev pub IsSettled : StoreState → SavedHub D R → Type 0
    IsSettled config k = IsSaved config k.hub.1 k × IsAllSaved k

    -- where there is a journal it is open, and its next record takes the lines
    abbrev pub IsReady : SavedHub D R → Type 0
    IsReady k =
        IfSome k.journal (λ journal. ((texts : List (List ℕ)) × IsOpen seen may_leave failed stale journal texts)
        × (k.unsaved.most ≤ journal.room - record_beside))
