-- Edits as the records of a journal.
use Rattle.std.specs.Prelude.{◌≡◌, ℕ, List, Bool, Option, map as mapped}
use Rattle.std.specs.List.{flat_map}
use Rattle.doc_store.specs.declared.site_edit.SiteEdit.{SiteEdit}
use Rattle.doc_server_journal.specs.Journals.{IsOpen}
use Rattle.doc_server_journal.specs.declared.journal.Journal.{Journal}
use Rattle.doc_server_script.specs.PageLines.{lines_of}

-- lists joined, one behind the other
abbrev pub joined : List (List SiteEdit) → List SiteEdit
joined parts = flat_map (λ part. part) parts

-- Each record is the lines of some edits, and these one behind the other are the edits.
pub record AreLines (records : List (List ℕ)) (edits : List SiteEdit) : Type 0 where
  pub parts : List (List SiteEdit)
  pub are : records ≡ mapped lines_of parts
  pub all : joined parts ≡ edits

-- The journal is open, and has records of these edits.
pub record IsWritten {D : Type 0} (seen : D → Option (List ℕ)) (may_leave : D → List ℕ → Type 0) (failed : D → Bool)
    (stale : D → ℕ → Type 0) (journal : Journal D) (edits : List SiteEdit) : Type 0 where
  pub records : List (List ℕ)
  pub is_open : IsOpen seen may_leave failed stale journal records
  pub lines : AreLines records edits
