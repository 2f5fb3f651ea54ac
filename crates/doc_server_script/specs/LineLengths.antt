-- How many bytes the line of an edit has at most. All of this is this project's choice.
use Rattle.std.specs.Prelude.{◌≡◌, ◌≤◌, ℕ, ◌+◌, ◌*◌, true, length}
use Rattle.doc_page_parts.specs.Paths.{is_path}
use Rattle.doc_store_readers.specs.Groups.{IsGroups, group_limit}
use Rattle.doc_store.specs.Store.{text_limit}
use Rattle.doc_store.specs.declared.site_edit.SiteEdit.{SiteEdit}
use Rattle.doc_store.specs.declared.site_edit.SiteEdit.TheVariants as site_edits

-- how many bytes a path may have
abbrev pub path_limit : ℕ
path_limit = 200

-- how many bytes the name of a group may have
abbrev pub name_limit : ℕ
name_limit = 32

-- an edit at paths of pages, of groups and of a text that fits
abbrev pub IsWithin : SiteEdit → Type 0
IsWithin (site_edits.Put path groups text) = (is_path path ≡ true) × IsGroups groups × (length text ≤ text_limit)
IsWithin (site_edits.Remove path) = is_path path ≡ true
IsWithin (site_edits.Move from to) = (is_path from ≡ true) × (is_path to ≡ true)

-- The longest line: `put `, a path, the names of groups and a text, with what stands behind each of them, a space, a comma or the line
-- feed. A byte of the path or of the text is written with four at most.
unfoldable pub longest_line : ℕ
longest_line = 4 + (4 * path_limit + 1) + group_limit * (name_limit + 1) + (4 * text_limit + 1)
