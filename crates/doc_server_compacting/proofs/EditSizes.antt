-- Each edit takes a byte of a journal at least.
use Rattle.std.proofs.Common.{◌≡◌, ◌≤◌, ◌+◌, ℕ, List, [], ◌∷◌, ◌++◌, length, arith, length-append, sym, ap, ◌∙◌}
use Rattle.std.specs.Prelude.{map as mapped, Option, Bool}
use Rattle.doc_store.specs.declared.site_edit.SiteEdit.{SiteEdit}
use Rattle.doc_store.specs.declared.site_edit.SiteEdit.TheVariants as site_edits
use Rattle.doc_server_script.specs.Edits.{put_line, remove_line, move_line}
use Rattle.doc_server_script.specs.PageLines.{line_of, lines_of}
use Rattle.doc_server_journal_records.specs.Records.{Entry, body, chain, digest_behind, foot_of, front_of, head_of, header, open_gate, record_bytes}
use Rattle.doc_server_journal_records.specs.Records.{seed, texts_of}
use Rattle.doc_server_journal.specs.Journals.{IsOpen}
use Rattle.doc_server_journal.specs.declared.journal.Journal.{Journal}
use Rattle.doc_server_restore.specs.Written.{AreLines, joined}

-- how many bytes some texts have together
abbrev all_bytes : List (List ℕ) → ℕ
all_bytes [] = 0
all_bytes (text ∷ texts) = length text + all_bytes texts

-- ---- edits in lines

ends : (line : List ℕ) → 1 ≤ length (line ++ 10 ∷ [])
ends line = omega (arith, length-append line (10 ∷ []))

line_has_one : (edit : SiteEdit) → 1 ≤ length (line_of edit)
line_has_one (site_edits.Put path groups text) = ends (put_line path groups text)
line_has_one (site_edits.Remove path) = ends (remove_line path)
line_has_one (site_edits.Move from to) = ends (move_line from to)

lines_have_as_many : (edits : List SiteEdit) → length edits ≤ length (lines_of edits)
lines_have_as_many [] = omega arith
lines_have_as_many (edit ∷ edits) =
    omega (arith, line_has_one edit, lines_have_as_many edits, length-append (line_of edit) (lines_of edits))

parts_have_as_many : (parts : List (List SiteEdit)) → length (joined parts) ≤ all_bytes (mapped lines_of parts)
parts_have_as_many [] = omega arith
parts_have_as_many (part ∷ parts) =
    omega (arith, lines_have_as_many part, parts_have_as_many parts, length-append part (joined parts))

-- ---- texts in records

record_has_text : (before : List ℕ) (entry : Entry) → length entry.text ≤ length (record_bytes before entry)
unfolding record_bytes
record_has_text before entry =
    omega (
      arith,
      length-append (head_of (length entry.text) entry.time) entry.text,
      length-append (body entry) (foot_of (digest_behind before entry)),
    )

chain_has_texts : (before : List ℕ) (entries : List Entry) → all_bytes (texts_of entries) ≤ length (chain before entries)
chain_has_texts before [] = omega arith
chain_has_texts before (entry ∷ entries) =
    omega (
      arith,
      record_has_text before entry,
      chain_has_texts (digest_behind before entry) entries,
      length-append (open_gate ∷ record_bytes before entry) (chain (digest_behind before entry) entries),
    )

front_has_texts : (identity : List ℕ) (entries : List Entry) → all_bytes (texts_of entries) ≤ length (front_of identity entries)
front_has_texts identity entries =
    omega (arith, chain_has_texts (seed identity) entries, length-append (header identity) (chain (seed identity) entries))

-- ---- edits in a journal

pub edits_fit : {D : Type 0} (seen : D → Option (List ℕ)) (may_leave : D → List ℕ → Type 0) (failed : D → Bool) (stale : D → ℕ → Type 0)
    (journal : Journal D) (texts : List (List ℕ)) (edits : List SiteEdit)
    → IsOpen seen may_leave failed stale journal texts → AreLines texts edits → length edits ≤ journal.end
edits_fit seen may_leave failed stale journal texts edits is lines =
    let same : texts_of is.entries ≡ mapped lines_of lines.parts = sym is.texts_are ∙ lines.are in
    let some : length edits ≡ length (joined lines.parts) = ap length (sym lines.all) in
    let bytes : all_bytes (texts_of is.entries) ≡ all_bytes (mapped lines_of lines.parts) = ap all_bytes same in
    omega (arith, some, parts_have_as_many lines.parts, bytes, front_has_texts is.identity is.entries, is.end)
