-- The configuration in force, and what becomes of one that is given. All of this is this project's choice.
use Rattle.std.specs.Prelude.{◌≡◌, ◌⊎◌, ⊤, ℕ, List, Bool, Option, Some, None, Result, Ok, Err}
use Rattle.doc_hub.specs.Worlds.{World, store_of, with_media, with_store}
use Rattle.doc_server_journal.specs.declared.journal.Journal.{Journal}
use Rattle.doc_server_network.specs.KeptTurns.{IsOfCalls}
use Rattle.doc_server_network.specs.Reloads.{IsRefusedFor, IsRestarted, pages_alone}
use Rattle.doc_server_network.specs.Saved.{IsSettled}
use Rattle.doc_server_network.specs.declared.reload_fault.Refusal.{Refusal}
use Rattle.doc_server_network.specs.declared.reloaded.Reloaded.{Reloaded}
use Rattle.doc_server_network.specs.declared.saved_hub.SavedHub.{SavedHub}
use Rattle.doc_server_serving.specs.declared.given.Configuration.{Configuration}
use Rattle.doc_server_serving.specs.declared.given.Given.{Given}
use Rattle.doc_server_serving.specs.declared.given.Given.TheVariants as givens
use Rattle.doc_server_restore.specs.Restores.{restored}
use Rattle.doc_store.specs.Store.{StoreState}

-- this configuration was answered
abbrev pub WasGiven : (Option Given → Type 0) → Configuration → Type 0
WasGiven answered given = answered (Some (givens.Configuration given))

-- a configuration of which a start makes what is served: the one that was served first, or the pages of one that was answered
abbrev pub IsInForce : (Option Given → Type 0) → StoreState → StoreState → Type 0
IsInForce answered first config =
    (config ≡ first) ⊎ ((given : Configuration) × WasGiven answered given × (config ≡ pages_alone given.pages))

-- the pages of each configuration that was answered are as calls make them
abbrev pub AreAllOfCalls : (Option Given → Type 0) → Type 0
AreAllOfCalls answered = (given : Configuration) → WasGiven answered given → IsOfCalls given.pages.site

-- the configuration in force behind one that is given: its pages, or where it is refused that of before
abbrev pub config_behind : StoreState → Configuration → Result Reloaded Refusal → StoreState
config_behind config given (Ok reloaded) = pages_alone given.pages
config_behind config given (Err refusal) = config

-- Records were followed: the site is the one that they make of the site before, all else is as before, and no journal is kept.
pub record AreFollowed {D : Type 0} (texts : List (List ℕ)) (before behind : World) (journal : Option (Journal D)) : Type 0 where
  pub gives : restored before.media (store_of before) texts ≡ Ok (store_of behind)
  pub others : behind ≡ with_store before (store_of behind)
  pub alone : journal ≡ None

module _ {D : Type 0} (seen : D → Option (List ℕ)) (may_leave : D → List ℕ → Type 0) (failed : D → Bool) (stale : D → ℕ
    → Type 0) where
  -- What came of a configuration: the readers are its readers, the media its media, and the site is the one that a start over it would
  -- serve; or it was refused, and the world is as before.
  abbrev pub IsOutcome : World → World → Option (Journal D) → Configuration → Result Reloaded Refusal → Type 0
  IsOutcome before behind journal given (Ok reloaded) =
      (behind.readers ≡ given.readers) × (behind.media ≡ given.media)
      × IsRestarted seen may_leave failed stale given.pages journal behind reloaded.records
  IsOutcome before behind journal given (Err refusal) =
      (behind ≡ before) × IsRefusedFor seen may_leave failed stale given.pages (with_media before given.media) journal refusal

  -- what came of an answer; of a configuration it was told so
  abbrev pub IsAsAnswered : (Result Reloaded Refusal → Type 0) → World → World → Option (Journal D) → Option Given → Type 0
  IsAsAnswered told before behind journal None = behind ≡ before
  IsAsAnswered told before behind journal (Some (givens.Configuration given)) =
      (outcome : Result Reloaded Refusal) × told outcome × IsOutcome before behind journal given outcome
  IsAsAnswered told before behind journal (Some (givens.Records texts)) = AreFollowed texts before behind journal

  -- somebody was asked, the world is as the answer has it, and who answered was told what came of it
  abbrev pub IsTaken : (Option Given → Type 0) → (Result Reloaded Refusal → Type 0) → World → World → Option (Journal D)
      → Type 0
  IsTaken answered told before behind journal =
      (answer : Option Given) × answered answer × IsAsAnswered told before behind journal answer

  module _ {R : Type 0} where
    -- the records give the site that stands, over a configuration in force, and no line waits
    pub record IsSettledInForce (answered : Option Given → Type 0) (first : StoreState) (saved : SavedHub D R) : Type 0 where
      pub config : StoreState
      pub in_force : IsInForce answered first config
      pub settled : IsSettled seen may_leave failed stale config saved
