-- A journal that is open, and what a crash leaves of it.
use Rattle.std.specs.Prelude.{◌≡◌, ◌⊎◌, ◌+◌, ◌<◌, ◌^◌, ℕ, Bool, false, List, [], ◌∷◌, ◌++◌, length, Option, IfSome}
use Rattle.doc_server_journal.specs.Devices.{LeavesFile, IsFresh}
use Rattle.doc_server_journal_records.specs.Records.{Entry, AreEntries, IsIdentity, IsTail, seed, last_digest, texts_of, front_of, journal_bytes}
use Rattle.doc_server_journal_records.specs.Readings.{ReadsAs}
use Rattle.doc_server_journal.specs.declared.journal.Journal.{Journal}

-- the file is the journal of this identity with these records, and behind its closed gate stands what may stand there
abbrev pub Holds : List ℕ → List Entry → List ℕ → Type 0
Holds identity entries file = (tail : List ℕ) × IsTail tail × (file ≡ journal_bytes identity entries tail)

-- how many bytes a record takes beside its text: its gate, its head and its foot
abbrev pub record_beside : ℕ
record_beside = 86

-- The journal has records of these texts. Where its file is known, it holds them, and all of it is on the disk, and no place
-- of it is stale. Behind its closed gate stands as much as it has room for.
pub record IsOpen {D : Type 0} (seen : D → Option (List ℕ)) (may_leave : D → List ℕ → Type 0) (failed : D → Bool) (stale : D → ℕ
    → Type 0) (journal : Journal D) (texts : List (List ℕ)) : Type 0 where
  pub identity : List ℕ
  pub entries : List Entry
  pub is_identity : IsIdentity identity
  pub are_entries : AreEntries entries
  pub texts_are : texts ≡ texts_of entries
  pub file : IfSome (seen journal.device) (λ file. Holds identity entries file)
  pub durable : LeavesFile (seen journal.device) (may_leave journal.device)
  pub fresh : IsFresh (stale journal.device)
  pub digest : journal.digest ≡ last_digest (seed identity) entries
  pub end : journal.end ≡ length (front_of identity entries)
  pub room : IfSome (seen journal.device) (λ file. length file ≡ journal.end + 1 + journal.room)
  pub fits : journal.end + 1 + journal.room < 2 ^ 63
  pub usable : failed journal.device ≡ false

-- the bytes read as these records, or with one more
abbrev pub IsBeforeOrAfter : List (List ℕ) → List ℕ → List ℕ → Type 0
IsBeforeOrAfter texts text bytes = ReadsAs bytes texts ⊎ ReadsAs bytes (texts ++ text ∷ [])
