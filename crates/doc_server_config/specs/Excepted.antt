-- The folders in a folder that are passed over, with all that stands below them. All of this is this project's choice.
use Rattle.std.specs.Prelude.{ℕ, List, [], Bool, ◌&&◌, ◌==◌, length, get_or, Option, Some, None, option_and_then, if◌then◌else◌}
use Rattle.std.specs.List.{list_all, list_any, starts_with}
use Rattle.toml.specs.Data.{Data, as_array}
use Rattle.doc_page_parts.specs.Paths.{is_segment, segments}
use Rattle.doc_store_readers.specs.Readers.{strings_in}

-- whether a text is the name of a folder in another: its parts, none of them empty, `.` or `..`, with `/` between
abbrev pub is_folder_name : List ℕ → Bool
is_folder_name name = list_all is_segment (segments name)

abbrev pub are_folder_names : List (List ℕ) → Bool
are_folder_names names = list_all is_folder_name names

-- the names, where all are such
abbrev pub good_names : Option (List (List ℕ)) → Option (List (List ℕ))
good_names None = None
good_names (Some names) = if are_folder_names names then Some names else None

-- the folders that are passed over: what the key holds, where that is an array of such names; without the key none
abbrev pub except_at : Option Data → Option (List (List ℕ))
except_at None = Some []
except_at (Some value) = good_names (option_and_then strings_in (as_array value))

-- whether a file stands below a folder: its name begins with the folder's, and goes on with a slash
abbrev pub is_below : List ℕ → List ℕ → Bool
is_below folder file = starts_with ◌==◌ file folder && get_or file (length folder) 0 == 47

-- whether it stands below one of these folders
abbrev pub is_excepted : List (List ℕ) → List ℕ → Bool
is_excepted folders file = list_any (λ folder. is_below folder file) folders
