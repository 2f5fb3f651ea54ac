-- Why files of folders are bad. All of this is this project's choice.
use Rattle.std.specs.Prelude.{ℕ, List, length, Bool, true, false, not, ◌||◌, ◌==◌, nat_le, if◌then◌else◌}
use Rattle.std.specs.List.{list_all}
use Rattle.std.specs.Str.{chars}
use Rattle.doc_page_parts.specs.Paths.{is_control, segments}
use Rattle.doc_server_config.specs.declared.reason.Reason.{Reason}
use Rattle.doc_server_config.specs.declared.reason.Reason.TheVariants.{BadCharacter, Control, ManyParts, LongPath, Absent, Denied, IsFolder}
use Rattle.doc_server_config.specs.declared.reason.Reason.TheVariants.{Unread, LongPage, NoText, LongMedium, PathOf, ManyPages, ManyMedia, MuchMedia}

-- none of `\`, `%`, `?` and `#`
abbrev pub is_plain_char : ℕ → Bool
is_plain_char c = not (c == 92 || c == 37 || c == 63 || c == 35)

-- why a text is no path, where none of its parts is empty, `.` or `..`, which those of a file's name never are
abbrev pub path_reason : List ℕ → Reason
path_reason text =
    if not (list_all is_plain_char (chars text)) then BadCharacter
    else (if not (list_all (λ c. not (is_control c)) (chars text)) then Control
    else (if not (nat_le (length (segments text)) 16) then ManyParts else LongPath))

-- whether a reason is one that `path_reason` gives
abbrev pub is_of_path : Reason → Bool
is_of_path BadCharacter = true
is_of_path Control = true
is_of_path ManyParts = true
is_of_path LongPath = true
is_of_path Absent = false
is_of_path Denied = false
is_of_path IsFolder = false
is_of_path Unread = false
is_of_path LongPage = false
is_of_path NoText = false
is_of_path (PathOf name) = false
is_of_path LongMedium = false
is_of_path ManyPages = false
is_of_path ManyMedia = false
is_of_path (MuchMedia bytes) = false
