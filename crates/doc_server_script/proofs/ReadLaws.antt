-- The line of an edit, read, gives that edit.
use Rattle.std.proofs.Common.{◌≡◌, ℕ, List, ◌∷◌, ◌++◌, true, cond, codes, refl, ap, ◌∙◌}
use Rattle.std.specs.Prelude.{Some, None, option_and_then}
use Rattle.std.specs.List.{list_all}
use Rattle.std.proofs.lemmas.Str.{is_utf8-from_IsUtf8}
use Rattle.doc_store_readers.specs.Groups.{IsGroups}
use Rattle.doc_store.specs.declared.site_edit.SiteEdit.TheVariants as site_edits
use Rattle.doc_hub_events.specs.declared.event.Event.TheVariants as events
use Rattle.doc_server_script.specs.Edits.{put_line, remove_line, move_line, groups_text}
use Rattle.doc_server_script.specs.Escapes.{is_printable, spaceless, escaped}
use Rattle.doc_server_script.specs.Fields.{as_text, as_path, cut, groups_in, text_of, path_in}
use Rattle.doc_server_script.specs.Laws.{IsText, IsPathText, EditsAreRead, EditsAreLines}
use Rattle.doc_server_script.specs.Lines.{event_of, event_in, move_with, put_of, put_with, remove_with}
use Rattle.doc_server_script.proofs.CutLaws.{all_append, cut_at, escaped_prints, no_space_in, spaceless_prints}
use Rattle.doc_server_script.proofs.GroupLaws.{groups_back, groups_no_space, groups_print}
use Rattle.doc_server_script.proofs.EscapeLaws.{escaped_back, spaceless_text_back}

utf8_back : (text : List ℕ) → IsText text → as_text text ≡ Some text
utf8_back text is = ap (λ b. cond b (Some text) None) (is_utf8-from_IsUtf8 text is.utf8)

pub text_back : (text : List ℕ) → IsText text → text_of (escaped text) ≡ Some text
text_back text is = ap (option_and_then as_text) (escaped_back text is.bytes) ∙ utf8_back text is

path_text_back : (path : List ℕ) → IsText path → text_of (spaceless path) ≡ Some path
path_text_back path is = ap (option_and_then as_text) (spaceless_text_back path is.bytes) ∙ utf8_back path is

pub path_back : (path : List ℕ) → IsPathText path → path_in (spaceless path) ≡ Some path
path_back path is = ap (option_and_then as_path) (path_text_back path is.text) ∙ rw is.good refl

pub remove_read : (path : List ℕ) → IsPathText path → event_of (remove_line path) ≡ Some (events.Site (site_edits.Remove path))
unfolding event_of
remove_read path is =
    ap (event_in (remove_line path)) (cut_at (codes "remove") (spaceless path) refl)
    ∙ ap remove_with (path_back path is)

pub move_read : (from to : List ℕ) → IsPathText from → IsPathText to
    → event_of (move_line from to) ≡ Some (events.Site (site_edits.Move from to))
unfolding event_of
move_read from to old new =
    ap (event_in (move_line from to)) (cut_at (codes "move") (spaceless from ++ 32 ∷ spaceless to) refl)
    ∙ ap (option_and_then (λ fields. move_with (path_in fields.0) (path_in fields.1)))
    (cut_at (spaceless from) (spaceless to) (no_space_in from old.text.bytes))
    ∙ ap (λ path. move_with path (path_in (spaceless to))) (path_back from old)
    ∙ ap (move_with (Some from)) (path_back to new)

pub put_read : (path : List ℕ) (groups : List (List ℕ)) (text : List ℕ) → IsPathText path → IsGroups groups → IsText text
    → event_of (put_line path groups text) ≡ Some (events.Site (site_edits.Put path groups text))
unfolding event_of
put_read path groups text of_page names is =
    let last = groups_text groups ++ 32 ∷ escaped text in
    ap (event_in (put_line path groups text)) (cut_at (codes "put") (spaceless path ++ 32 ∷ last) refl)
    ∙ ap (option_and_then (λ fields. put_of fields.0 (cut fields.1))) (cut_at (spaceless path) last (no_space_in path of_page.text.bytes))
    ∙ ap (put_of (spaceless path)) (cut_at (groups_text groups) (escaped text) (groups_no_space groups names))
    ∙ ap (λ p. put_with p (groups_in (groups_text groups)) (text_of (escaped text))) (path_back path of_page)
    ∙ ap (λ g. put_with (Some path) g (text_of (escaped text))) (groups_back groups names)
    ∙ ap (put_with (Some path) (Some groups)) (text_back text is)

pub edits_are_read : EditsAreRead
edits_are_read = record { put = put_read; remove = remove_read; move = move_read }

-- ---- printable lines

put_prints : (path : List ℕ) (groups : List (List ℕ)) (text : List ℕ) → IsGroups groups → IsText path → IsText text
    → list_all is_printable (put_line path groups text) ≡ true
put_prints path groups text names first is =
    all_append is_printable (codes "put ") (spaceless path ++ 32 ∷ (groups_text groups ++ 32 ∷ escaped text)) refl
    (all_append is_printable (spaceless path) (32 ∷ (groups_text groups ++ 32 ∷ escaped text)) (spaceless_prints path first.bytes)
    (all_append is_printable (codes " ") (groups_text groups ++ 32 ∷ escaped text) refl
    (all_append is_printable (groups_text groups) (32 ∷ escaped text) (groups_print groups names)
    (all_append is_printable (codes " ") (escaped text) refl (escaped_prints text is.bytes)))))

remove_prints : (path : List ℕ) → IsText path → list_all is_printable (remove_line path) ≡ true
remove_prints path is = all_append is_printable (codes "remove ") (spaceless path) refl (spaceless_prints path is.bytes)

move_prints : (from to : List ℕ) → IsText from → IsText to → list_all is_printable (move_line from to) ≡ true
move_prints from to old new =
    all_append is_printable (codes "move ") (spaceless from ++ 32 ∷ spaceless to) refl
    (all_append is_printable (spaceless from) (32 ∷ spaceless to) (spaceless_prints from old.bytes)
    (all_append is_printable (codes " ") (spaceless to) refl (spaceless_prints to new.bytes)))

pub edits_are_lines : EditsAreLines
edits_are_lines = record { put = put_prints; remove = remove_prints; move = move_prints }
