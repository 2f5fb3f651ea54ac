-- What following another server does to a hub. All of this is this project's choice.
use Rattle.std.specs.Prelude.{◌≡◌, ◌≢◌, List, ℕ, Bool, true, All, Err}
use Rattle.doc_hub.specs.Replies.{Renders}
use Rattle.doc_hub.specs.Runs.{Happened, Runs}
use Rattle.doc_hub.specs.Worlds.{World, store_of, with_store}
use Rattle.doc_media.specs.Media.{Media}
use Rattle.doc_server_network.specs.declared.follow_fault.FollowFault.{FollowFault}
use Rattle.doc_server_network.specs.declared.follow_fault.FollowFault.TheVariants as follow_faults
use Rattle.doc_server_network.specs.declared.saved_hub.SavedHub.{SavedHub}
use Rattle.doc_server_reload.specs.ReplyLaws.{IsSiteEdit}
use Rattle.doc_server_restore.specs.Restores.{restored}
use Rattle.doc_server_restore.specs.declared.fault.RestoreFault.TheVariants as restore_faults
use Rattle.doc_store.specs.Store.{StoreState}

-- a run of edits of the site, and of nothing else, leads from one world to the other
pub record EditsAlone (render : Renders) (w v : World) : Type 0 where
  pub run : List Happened
  pub runs : Runs render w run v
  pub own : All IsSiteEdit run

-- Why records aren't followed: a journal is kept, or one of them isn't made, as a start would say, unless memory ran out.
abbrev pub IsUnfollowed : Bool → Media → StoreState → List (List ℕ) → FollowFault → Type 0
IsUnfollowed keeps media store texts follow_faults.Keeps = keeps ≡ true
IsUnfollowed keeps media store texts (follow_faults.Record fault) =
    fault ≢ restore_faults.Memory → restored media store texts ≡ Err fault
IsUnfollowed keeps media store texts follow_faults.Damaged = ⊥

-- edits were made on a hub, and all else is as before
pub record IsEdited {D R : Type 0} (render drawn : Renders) (old new : SavedHub D R) : Type 0 where
  pub page : drawn ≡ render
  pub edits : EditsAlone render old.hub.1 new.hub.1
  pub others : new.hub.1 ≡ with_store old.hub.1 (store_of new.hub.1)
  pub journal : new.journal ≡ old.journal
  pub unsaved : new.unsaved ≡ old.unsaved
