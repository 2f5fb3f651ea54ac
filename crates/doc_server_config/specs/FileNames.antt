-- The paths of pages that stand in files of a folder. All of this is this project's choice.
use Rattle.std.specs.Prelude.{ℕ, List, [], ◌∷◌, ◌++◌, length, Bool, true, not, ◌&&◌, ◌||◌, ◌==◌, codes, Option, Some, None, Result, Ok, Err}
use Rattle.std.specs.Prelude.{if◌then◌else◌, chars, encode_utf8_all}
use Rattle.std.specs.List.{list_all, ends_with}
use Rattle.unicode_normalization.specs.Forms.{nfc}
use Rattle.doc_page_parts.specs.Paths.{is_path, segments}
use Rattle.doc_server_config.specs.declared.reason.Reason.{Reason}
use Rattle.doc_server_config.specs.MediaNames.{is_medium}
use Rattle.doc_server_config.specs.Reasons.{path_reason}

-- a name behind a prefix and a slash, or alone where the prefix is empty
abbrev pub joined : List ℕ → List ℕ → List ℕ
joined prefix name = if length prefix == 0 then name else prefix ++ 47 ∷ name

-- whether a text can stand before names of files: with the shortest name it makes a path of a page
abbrev pub is_prefix : List ℕ → Bool
is_prefix prefix = is_path (joined prefix (codes "a.md"))

-- a part of a name that doesn't begin with `.`
abbrev pub is_shown_part : List ℕ → Bool
is_shown_part [] = true
is_shown_part (b ∷ rest) = not (b == 46)

-- whether neither a file nor a folder that it stands in is hidden
abbrev pub is_shown : List ℕ → Bool
is_shown name = list_all is_shown_part (segments name)

-- whether a file of this name is a page: it isn't hidden, and its name ends in `.md`
abbrev pub is_page_name : List ℕ → Bool
is_page_name name = is_shown name && ends_with ◌==◌ name (codes ".md")

-- a text as the path of a page, or why it is none
abbrev pub page_path : List ℕ → Result (Option (List ℕ)) Reason
page_path text = if is_path text then Ok (Some text) else Err (path_reason text)

-- the name of a file as it stands in a path: in normalization form C (Unicode Standard Annex 15) where that is asked for
abbrev pub name_in_path : Bool → List ℕ → List ℕ
name_in_path is_nfc name = if is_nfc then encode_utf8_all (nfc (chars name)) else name

-- whether a file of this name is a medium: it isn't hidden, and its name has one of the extensions
abbrev pub is_medium_name : Option (List (List ℕ)) → List ℕ → Bool
is_medium_name media name = is_shown name && is_medium media name

abbrev pub is_file_name : Option (List (List ℕ)) → List ℕ → Bool
is_file_name media name = is_page_name name || is_medium_name media name

-- the path of the page or the medium in the file of this name in a folder; other files are passed over
abbrev pub path_in_folder : Bool → Option (List (List ℕ)) → List ℕ → List ℕ → Result (Option (List ℕ)) Reason
path_in_folder is_nfc media prefix name = if is_file_name media name then page_path (joined prefix (name_in_path is_nfc name)) else Ok None
