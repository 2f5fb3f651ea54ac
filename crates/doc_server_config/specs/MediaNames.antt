-- Which files of a folder are media, by the key `media` of its table. All of this is this project's choice.
use Rattle.std.specs.Prelude.{ℕ, List, [], ◌∷◌, Bool, true, false, not, ◌&&◌, ◌==◌, ◌-◌, length, map, take, drop, codes, nat_lt, Option, Some, None}
use Rattle.std.specs.Prelude.{option_and_then, if◌then◌else◌}
use Rattle.std.specs.List.{ends_with, list_all, list_any}
use Rattle.std.specs.Str.{str_eq_ignore_ascii_case}
use Rattle.toml.specs.Data.{Data, as_array, as_bool}
use Rattle.doc_media.specs.Kinds.{kind_rows}
use Rattle.doc_store_readers.specs.Readers.{strings_in}
use Rattle.doc_server_config.specs.Keys.{is_one_of}

-- the extensions of media
abbrev pub extensions : List (List ℕ)
extensions = map (λ row. row.0) kind_rows

-- whether a text is one of them, in lower case
abbrev pub is_extension : List ℕ → Bool
is_extension name = is_one_of extensions name

abbrev pub are_extensions : List (List ℕ) → Bool
are_extensions names = list_all is_extension names

-- the extensions that are listed, where all are such, and there is one
abbrev pub listed_media : Option (List (List ℕ)) → Option (Option (List (List ℕ)))
listed_media None = None
listed_media (Some names) = if not (length names == 0) && are_extensions names then Some (Some names) else None

-- those of a value: all for `true`, or those that an array lists
abbrev pub media_of : Option Bool → Option (List (List ℕ)) → Option (Option (List (List ℕ)))
media_of (Some true) names = Some (Some extensions)
media_of (Some false) names = None
media_of None names = listed_media names

-- the extensions of the files that are media; without the key none are
abbrev pub media_at : Option Data → Option (Option (List (List ℕ)))
media_at None = Some None
media_at (Some value) = media_of (as_bool value) (option_and_then strings_in (as_array value))

-- whether a name has an extension, in any case of ASCII letters: the last `.` of the name stands before it, since no extension has one
abbrev pub has_extension : List ℕ → List ℕ → Bool
has_extension extension name =
    if nat_lt (length name) (length extension) then false
    else (ends_with ◌==◌ (take (length name - length extension) name) (codes ".")
    && str_eq_ignore_ascii_case (drop (length name - length extension) name) extension)

-- whether a file of this name has one of the extensions
abbrev pub is_medium : Option (List (List ℕ)) → List ℕ → Bool
is_medium None name = false
is_medium (Some extensions) name = list_any (λ extension. has_extension extension name) extensions
