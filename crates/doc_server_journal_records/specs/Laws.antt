-- Laws of journals.
use Rattle.std.specs.Prelude.{◌≡◌, ℕ, List}
use Rattle.doc_server_journal_records.specs.Records.{Entry, AreEntries, IsIdentity, IsTail, journal_bytes, texts_of}
use Rattle.doc_server_journal_records.specs.Readings.{ReadsAs, IsDamaged, IsNoJournal}

-- what was written reads as the records that it is, whatever stands behind its closed gate but an open one
abbrev pub WrittenIsRead : Type 0
WrittenIsRead = (identity : List ℕ) (entries : List Entry) (tail : List ℕ) → IsIdentity identity → AreEntries entries → IsTail tail
    → ReadsAs (journal_bytes identity entries tail) (texts_of entries)

-- bytes read as no two lists of records
abbrev pub ReadsOneWay : Type 0
ReadsOneWay = (bytes : List ℕ) (texts others : List (List ℕ)) → ReadsAs bytes texts → ReadsAs bytes others → texts ≡ others

-- bytes that read as records aren't damaged, and have a header
abbrev pub ReadIsNotDamaged : Type 0
ReadIsNotDamaged = (bytes : List ℕ) (texts : List (List ℕ)) → ReadsAs bytes texts
    → ((n : ℕ) → IsDamaged bytes n → ⊥) × (IsNoJournal bytes → ⊥)

-- bytes are damaged at one record alone
abbrev pub IsDamagedOnce : Type 0
IsDamagedOnce = (bytes : List ℕ) (m n : ℕ) → IsDamaged bytes m → IsDamaged bytes n → m ≡ n
