-- What a file holds, read.
use Rattle.std.proofs.Common.{◌≡◌, ℕ, List, Bool, Option, IfSome, sym, subst}
use Rattle.doc_server_journal_records.specs.Records.{Entry, AreEntries, IsIdentity, journal_bytes, texts_of}
use Rattle.doc_server_journal_records.specs.Readings.{ReadsAs}
use Rattle.doc_server_journal_records.proofs.LawLemmas.{written_is_read}
use Rattle.doc_server_journal.specs.Journals.{Holds, IsOpen}
use Rattle.doc_server_journal.specs.declared.journal.Journal.{Journal}
use Rattle.doc_server_journal.proofs.Moments.{if_known, known}

pub reads_so : (identity : List ℕ) (entries : List Entry) (texts : List (List ℕ)) (c : List ℕ) → IsIdentity identity → AreEntries entries
    → texts ≡ texts_of entries → Holds identity entries c → ReadsAs c texts
reads_so identity entries texts c identity_is all texts_are (tail, tail_is, is) =
    let P : List ℕ → Type 0 = λ x. ReadsAs x texts in
    let Q : List (List ℕ) → Type 0 = λ ts. ReadsAs (journal_bytes identity entries tail) ts in
    subst P (sym is) (subst Q (sym texts_are) (written_is_read identity entries tail identity_is all tail_is))

-- the file of an open journal reads as its records
module _ {D : Type 0} (seen : D → Option (List ℕ)) (may_leave : D → List ℕ → Type 0) (failed : D → Bool) (stale : D → ℕ
    → Type 0) where
  pub open_reads : (journal : Journal D) (texts : List (List ℕ)) → IsOpen seen may_leave failed stale journal texts
      → IfSome (seen journal.device) (λ file. ReadsAs file texts)
  open_reads journal texts is =
      if_known (seen journal.device) (λ file. ReadsAs file texts) (λ file known_is.
      reads_so is.identity is.entries texts file is.is_identity is.are_entries is.texts_are
      (known (seen journal.device) file (λ f. Holds is.identity is.entries f) known_is is.file))
