-- What a crash leaves of a journal, as a site.
use Rattle.std.specs.Prelude.{◌⊎◌, ⊤, ℕ, List, Option, Some, None, IfSome}
use Rattle.doc_hub.specs.Worlds.{World}
use Rattle.doc_server_journal.specs.Devices.{AreBehind, LeavesOnly}
use Rattle.doc_server_journal.specs.declared.journal.Journal.{Journal}
use Rattle.doc_server_journal_records.specs.Readings.{ReadsAs}
use Rattle.doc_server_reload.specs.KeptTurns.{IsRestored}
use Rattle.doc_store.specs.Store.{StoreState}

-- a file whose records, made again over the configuration's pages, give the site of a world
pub record Restores (config : StoreState) (w : World) (file : List ℕ) : Type 0 where
  pub texts : List (List ℕ)
  pub reads : ReadsAs file texts
  pub gives : IsRestored config texts w

-- the site of one world or of another
abbrev pub RestoresEither : StoreState → World → World → List ℕ → Type 0
RestoresEither config w v file = Restores config w file ⊎ Restores config v file

-- this holds of the journal before and of the one behind, or there is none
abbrev pub OfBoth : {D : Type 0} → (Journal D → Journal D → Type 0) → Option (Journal D) → Option (Journal D) → Type 0
OfBoth P (Some old) (Some new) = P old new
OfBoth P None None = ⊤
OfBoth P old new = ⊥

module _ {D : Type 0} (seen : D → Option (List ℕ)) (moment : D → ℕ) (left_since : D → ℕ → List ℕ → Type 0) where
  -- where the file is known, a crash at any moment between leaves one that has P
  abbrev pub LeavesFiles : (List ℕ → Type 0) → Journal D → Journal D → Type 0
  LeavesFiles P old new = IfSome (seen old.device) (λ file. LeavesOnly moment left_since old.device new.device P)

  -- the same where there is a journal at all
  abbrev pub CrashesLeave : (List ℕ → Type 0) → Option (Journal D) → Option (Journal D) → Type 0
  CrashesLeave P old new = OfBoth (LeavesFiles P) old new

-- what no sync brings to the disk stands behind the records of before
abbrev pub StaleIsBehind : {D : Type 0} → (D → ℕ → Type 0) → Journal D → Journal D → Type 0
StaleIsBehind stale old new = AreBehind (stale new.device) old.end
