-- The bytes of the lines of edits. All of this is this project's choice.
use Rattle.std.specs.Prelude.{◌≡◌, ℕ, List, Bool, true, ◌==◌, ◌||◌}
use Rattle.std.specs.List.{list_all}
use Rattle.doc_store_readers.specs.Groups.{is_group}
use Rattle.doc_store.specs.declared.site_edit.SiteEdit.{SiteEdit}
use Rattle.doc_store.specs.declared.site_edit.SiteEdit.TheVariants as site_edits
use Rattle.doc_server_script.specs.Escapes.{is_byte, is_printable}

-- a byte of a line or its line feed: printable ASCII
abbrev pub is_line_byte : ℕ → Bool
is_line_byte b = b == 10 || is_printable b

abbrev pub AreLineBytes : List ℕ → Type 0
AreLineBytes lines = list_all is_line_byte lines ≡ true

abbrev pub AreBytes : List ℕ → Type 0
AreBytes text = list_all is_byte text ≡ true

-- an edit whose paths and text are bytes, and whose groups are groups
abbrev pub HasBytes : SiteEdit → Type 0
HasBytes (site_edits.Put path groups text) = AreBytes path × (list_all is_group groups ≡ true) × AreBytes text
HasBytes (site_edits.Remove path) = AreBytes path
HasBytes (site_edits.Move from to) = AreBytes from × AreBytes to
