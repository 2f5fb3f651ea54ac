-- Opening a journal.
use Rattle.std.specs.Prelude.{◌≡◌, ◌⊎◌, ◌<◌, ℕ, Bool, true, false, List, ◌++◌, ◌+◌, ◌-◌, length, replicate, slice_range, Option, IfSome}
use Rattle.doc_server_journal_records.specs.Readings.{ReadsAs, IsDamaged, IsNoJournal}
use Rattle.doc_server_journal_records.specs.FirstReadings.{IsFirst}
use Rattle.doc_server_journal_records.specs.declared.found.Found.{Found}
use Rattle.doc_server_journal.specs.declared.fault.LoadError.{LoadError}
use Rattle.doc_server_journal.specs.declared.fault.LoadError.TheVariants as loads
use Rattle.doc_server_journal_records.specs.declared.read_error.ReadError.{ReadError}
use Rattle.doc_server_journal_records.specs.declared.read_error.ReadError.TheVariants as reads
use Rattle.doc_server_journal.specs.declared.fault.OpenFault.{OpenFault}
use Rattle.doc_server_journal.specs.declared.fault.OpenFault.TheVariants.{NoJournal, First, Damaged, Memory, Long, Failed}

abbrev pub of_load : LoadError → OpenFault
of_load loads.Memory = Memory
of_load loads.Long = Long
of_load loads.Failed = Failed

abbrev pub of_reading : ReadError → OpenFault
of_reading reads.NoJournal = NoJournal
of_reading reads.First = First
of_reading (reads.Damaged n) = Damaged n
of_reading reads.Memory = Memory

-- A crash may have left this before, or it reads as the records of these texts. Where a crash before left the file as it is
-- known, and that reads as these records, all that a crash leaves does.
abbrev pub WasLeftOrReads : (List ℕ → Type 0) → List (List ℕ) → List ℕ → Type 0
WasLeftOrReads old texts c = old c ⊎ ReadsAs c texts

-- no header stands in front, and the bytes are no journal of the first form, or one
abbrev pub IsForeign : List ℕ → Type 0
IsForeign file = IsNoJournal file × ((texts : List (List ℕ)) → IsFirst file texts → ⊥)

abbrev pub IsOfFirst : List ℕ → Type 0
IsOfFirst file = IsNoJournal file × ((texts : List (List ℕ)) × IsFirst file texts)

-- the bytes from the last record's gate to the closed gate, as they were read, and so many zeros
abbrev pub IsEndAgain : List ℕ → Found → ℕ → List ℕ → Type 0
IsEndAgain bytes found room again =
    again ≡ slice_range bytes (found.end - found.last) (found.end + 1) ++ replicate room 0

-- the file and whether the device has failed, before and after a refusal
abbrev pub IsUntouched : Option (List ℕ) → Option (List ℕ) → Bool → Type 0
IsUntouched old new failed = (new ≡ old) × (failed ≡ false)

-- why a journal of at most so many bytes isn't opened, and what its file is then
abbrev pub IsRefused : ℕ → Option (List ℕ) → Option (List ℕ) → Bool → OpenFault → Type 0
IsRefused most old new failed NoJournal = IfSome old IsForeign × IsUntouched old new failed
IsRefused most old new failed First = IfSome old IsOfFirst × IsUntouched old new failed
IsRefused most old new failed (Damaged n) = IfSome old (λ file. IsDamaged file n) × IsUntouched old new failed
IsRefused most old new failed Memory = IsUntouched old new failed
IsRefused most old new failed Long = IfSome old (λ file. most < length file) × IsUntouched old new failed
IsRefused most old new failed Failed = failed ≡ true
