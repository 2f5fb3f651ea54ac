-- Laws of a script's lines; the proofs are in proofs/.
use Rattle.std.specs.Prelude.{◌≡◌, ℕ, List, true, IsUtf8, Some}
use Rattle.std.specs.List.{list_all}
use Rattle.doc_page_parts.specs.Paths.{is_path}
use Rattle.doc_store_readers.specs.Groups.{IsGroups}
use Rattle.doc_store.specs.declared.site_edit.SiteEdit.TheVariants as site_edits
use Rattle.doc_hub_events.specs.declared.event.Event.TheVariants as events
use Rattle.doc_server_script.specs.Edits.{put_line, remove_line, move_line}
use Rattle.doc_server_script.specs.Escapes.{is_byte, is_printable}
use Rattle.doc_server_script.specs.Lines.{event_of}

-- UTF-8, each number a byte
pub record IsText (text : List ℕ) : Type 0 where
  pub bytes : list_all is_byte text ≡ true
  pub utf8 : IsUtf8 text

-- the text of a path of a page
pub record IsPathText (path : List ℕ) : Type 0 where
  pub good : is_path path ≡ true
  pub text : IsText path

-- an edit's line, read, gives that edit
pub record EditsAreRead : Type 0 where
  pub put : (path : List ℕ) (groups : List (List ℕ)) (text : List ℕ) → IsPathText path → IsGroups groups → IsText text
      → event_of (put_line path groups text) ≡ Some (events.Site (site_edits.Put path groups text))
  pub remove : (path : List ℕ) → IsPathText path → event_of (remove_line path) ≡ Some (events.Site (site_edits.Remove path))
  pub move : (from to : List ℕ) → IsPathText from → IsPathText to
      → event_of (move_line from to) ≡ Some (events.Site (site_edits.Move from to))

-- an edit's line is of printable ASCII, so no line feed stands in it
pub record EditsAreLines : Type 0 where
  pub put : (path : List ℕ) (groups : List (List ℕ)) (text : List ℕ) → IsGroups groups → IsText path → IsText text
      → list_all is_printable (put_line path groups text) ≡ true
  pub remove : (path : List ℕ) → IsText path → list_all is_printable (remove_line path) ≡ true
  pub move : (from to : List ℕ) → IsText from → IsText to → list_all is_printable (move_line from to) ≡ true
