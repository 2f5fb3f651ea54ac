-- Edits as lines of a script, each with its line feed.
use Rattle.std.specs.Prelude.{ℕ, List, [], ◌∷◌, ◌++◌}
use Rattle.std.specs.List.{flat_map}
use Rattle.doc_server_script.specs.Edits.{put_line, remove_line, move_line}
use Rattle.doc_store.specs.declared.site_edit.SiteEdit.{SiteEdit}
use Rattle.doc_store.specs.declared.site_edit.SiteEdit.TheVariants as site_edits

abbrev pub line_of : SiteEdit → List ℕ
line_of (site_edits.Put path groups text) = put_line path groups text ++ 10 ∷ []
line_of (site_edits.Remove path) = remove_line path ++ 10 ∷ []
line_of (site_edits.Move from to) = move_line from to ++ 10 ∷ []

abbrev pub lines_of : List SiteEdit → List ℕ
lines_of edits = flat_map line_of edits
