-- Words in which the steps of a writer are stated.
use Rattle.std.specs.Prelude.{◌≡◌, ◌++◌, ◌≤◌, ℕ, List, [], length, map as mapped, Bool, Option, string_bytes, if◌then◌else◌}
use Rattle.doc_store_readers.specs.Pages.{Page}
use Rattle.doc_store_readers.specs.Sites.{Site}
use Rattle.doc_store.specs.Store.{remove_page}
use Rattle.doc_store.specs.declared.site_edit.SiteEdit.{SiteEdit}
use Rattle.doc_server_journal.specs.Journals.{IsOpen}
use Rattle.doc_server_journal_records.specs.Records.{IsPlain, text_limit}
use Rattle.doc_server_script.specs.Compactions.{same_at}
use Rattle.doc_server_restore.specs.declared.writer.EditWriter.{EditWriter}
use Rattle.doc_server_script.specs.PageLines.{lines_of}
use Rattle.doc_server_restore.specs.Written.{AreLines}

-- the removals of some pages
abbrev pub removals : List (List ℕ × Page) → List SiteEdit
removals entries = mapped (λ entry. remove_page entry.0) entries

-- some edits, unless two sites have the same page under a path, with the same aliases
abbrev pub unless_same : Site → Site → List ℕ → List SiteEdit → List SiteEdit
unless_same config site path edits = if same_at config site path then [] else edits

-- What was written so far: the first of the edits in records, and the lines of the others.
pub record HasWritten {D : Type 0} (seen : D → Option (List ℕ)) (may_leave : D → List ℕ → Type 0) (failed : D → Bool)
    (stale : D → ℕ → Type 0) (writer : EditWriter D) (edits : List SiteEdit) : Type 0 where
  pub records : List (List ℕ)
  pub first : List SiteEdit
  pub others : List SiteEdit
  pub is_open : IsOpen seen may_leave failed stale writer.journal records
  pub lines : AreLines records first
  pub text : string_bytes writer.text ≡ lines_of others
  pub within : length (string_bytes writer.text) ≤ text_limit
  pub plain : IsPlain (string_bytes writer.text)
  pub all : first ++ others ≡ edits

-- a writer that has written some edits
abbrev pub IsWriter : {D : Type 0} → (D → Option (List ℕ)) → (D → List ℕ → Type 0) → (D → Bool) → (D → ℕ → Type 0) → EditWriter D → Type 0
IsWriter seen may_leave failed stale writer = (edits : List SiteEdit) × HasWritten seen may_leave failed stale writer edits

-- a writer, once it has written these edits more
abbrev pub Wrote : {D : Type 0} → (D → Option (List ℕ)) → (D → List ℕ → Type 0) → (D → Bool) → (D → ℕ → Type 0)
    → EditWriter D → EditWriter D → List SiteEdit → Type 0
Wrote seen may_leave failed stale old new more =
    (edits : List SiteEdit) → HasWritten seen may_leave failed stale old edits → HasWritten seen may_leave failed stale new (edits ++ more)

-- a writer, once it has written all of some edits but those that are left
abbrev pub WroteUpTo : {D : Type 0} → (D → Option (List ℕ)) → (D → List ℕ → Type 0) → (D → Bool) → (D → ℕ → Type 0)
    → EditWriter D → EditWriter D → List SiteEdit → List SiteEdit → Type 0
WroteUpTo seen may_leave failed stale old new all left =
    (done : List SiteEdit) × Wrote seen may_leave failed stale old new done × (all ≡ done ++ left)
