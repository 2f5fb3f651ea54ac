-- What serving a site on a host promises. All of this is this project's choice.
use Rattle.std.specs.Prelude.{◌≡◌, ℕ, List, Bool, Option, Some, None, IfSome, is_some, Ok}
use Rattle.doc_hub.specs.Worlds.{IsApart, World, store_of, with_store, world_taking}
use Rattle.doc_hub.specs.Replies.{Renders}
use Rattle.doc_server_journal.specs.declared.journal.Journal.{Journal}
use Rattle.doc_server_journal_records.specs.Readings.{ReadsAs}
use Rattle.doc_server_network.specs.KeptTurns.{IsOfCalls}
use Rattle.doc_server_restore.specs.Restores.{restored}
use Rattle.doc_server_network.specs.Crashes.{CrashesLeave}
use Rattle.doc_server_network.specs.Saved.{IsAllSaved, IsReady, IsSettled}
use Rattle.doc_server_network.specs.declared.saved_hub.SavedHub.{SavedHub}
use Rattle.doc_server_serving.specs.Crashing.{AreKnown, RestoresFrontBy}
use Rattle.doc_server_serving.specs.Forces.{AreAllOfCalls, IsInForce, IsSettledInForce}
use Rattle.doc_server_serving.specs.Invariants.{IsServed}
use Rattle.doc_server_serving.specs.Leading.{LeadsWith}
use Rattle.doc_server_turns.specs.QuietRuns.{LeadsQuietly}
use Rattle.doc_server_serving.specs.declared.given.Given.{Given}

-- puts are taken from here on, or aren't
abbrev pub TakesPuts : World → World → Type 0
TakesPuts w v = (takes : Bool) × (v ≡ world_taking w takes)

-- The records of a file, where it is known, made again on the pages of one world, have given another, which is the same but for that.
pub record IsRestoredFrom (file : Option (List ℕ)) (w v : World) : Type 0 where
  pub texts : List (List ℕ)
  pub reads : IfSome file (λ bytes. ReadsAs bytes texts)
  pub gives : restored w.media (store_of w) texts ≡ Ok (store_of v)
  pub others : v ≡ with_store w (store_of v)

-- the world in which peers find a configured one: behind the edits of the journal of that name, or as it is
abbrev pub Begins : (List ℕ → Option (List ℕ)) → Option (List ℕ) → World → World → Type 0
Begins file None w v = v ≡ w
Begins file (Some name) w v = IsRestoredFrom (file name) w v

module _ {D R : Type 0} (seen : D → Option (List ℕ)) (may_leave : D → List ℕ → Type 0) (failed : D → Bool) (stale : D → ℕ → Type 0) where
  -- A hub that was made ready to be served: it keeps the journal of that name, if there is one, whose edits are made on it.
  pub record IsMadeReady (render : Renders) (file : List ℕ → Option (List ℕ)) (name : Option (List ℕ)) (w : World) (saved : SavedHub D R)
      : Type 0 where
    pub begin : World
    pub begins : Begins file name w begin
    pub quiet : LeadsQuietly render begin saved.hub.1
    pub all : IsAllSaved saved
    pub ready : IsReady seen may_leave failed stale saved
    pub keeps : is_some saved.journal ≡ is_some name
    pub settled : IsOfCalls begin.site → IsApart begin.site begin.media → IsSettled seen may_leave failed stale (store_of w) saved

  module _ (moment : D → ℕ) (left_since : D → ℕ → List ℕ → Type 0) where
    -- How a site was served. Peers found the configured world behind the edits of its journal. From there a run of their events, and of
    -- configurations that were given, led to the world at the end: on each connection a front of what it sent there was handed over, and
    -- nothing else, and what it pushed there is a front of what came. Where the site that peers found was as calls make it, apart from its
    -- media, and so are the pages of each configuration that was given, the next start over the configuration in force has the site that
    -- stands, if the server ended because it was told to; and whatever a crash at any moment leaves of the journal gives one over one in force
    -- the site behind a front of the run.
    pub record IsHosted (answered : Option Given → Type 0) (render : Renders) (file : List ℕ → Option (List ℕ)) (name : Option (List ℕ))
        (w : World) (saved : SavedHub D R) (came gone : ℕ → Option (List ℕ)) (ends_well : Type 0) : Type 0 where
      pub begin : World
      pub begins : Begins file name w begin
      pub journal : Option (Journal D)
      pub keeps : is_some journal ≡ is_some name
      pub leads : LeadsWith answered render begin saved.hub.1
      pub served : IsServed leads.run came gone
      pub settled : ends_well → IsOfCalls begin.site → IsApart begin.site begin.media → AreAllOfCalls answered
          → IsSettledInForce seen may_leave failed stale answered (store_of w) saved
      pub any_moment : AreKnown seen → IsOfCalls begin.site → IsApart begin.site begin.media → AreAllOfCalls answered
          → CrashesLeave seen moment left_since (RestoresFrontBy (IsInForce answered (store_of w)) render begin leads.run) journal
          saved.journal
