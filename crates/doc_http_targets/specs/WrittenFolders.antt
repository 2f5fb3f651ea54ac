-- How a request writes a folder.
use Rattle.std.specs.Prelude.{ℕ, List, [], ◌∷◌, ◌++◌, ◌-◌, ◌==◌, ◌&&◌, length, slice_get, take, Bool, false, Option, Some, None}
use Rattle.std.specs.Prelude.{if◌then◌else◌}
use Rattle.std.specs.List.{flat_map, list_any, slice_split}
use Rattle.std.specs.Str.{is_utf8}
use Rattle.percent_encoding.specs.Percent.{percent_decode}

-- the byte behind each part of a folder
abbrev pub is_slash : ℕ → Bool
is_slash b = b == 47

-- a byte, where there is one, is that
abbrev pub is_slash_at : Option ℕ → Bool
is_slash_at None = false
is_slash_at (Some b) = is_slash b

-- the text without its last byte
abbrev pub without_last : List ℕ → List ℕ
without_last text = take (length text - 1) text

-- the text, where it is one of UTF-8 and its last byte is `/`
abbrev pub if_folder : List ℕ → Option (List ℕ)
if_folder text = if is_utf8 text && is_slash_at (slice_get text (length text - 1)) then Some text else None

-- these parts, each with `/` behind it
abbrev pub with_slashes : List (List ℕ) → List ℕ
with_slashes parts = flat_map (λ part. percent_decode part ++ 47 ∷ []) parts

-- a part, decoded (RFC 3986, section 2.1), holds `/`
abbrev pub holds_slash : List ℕ → Bool
holds_slash part = list_any is_slash (percent_decode part)

-- the folder of all parts of a text between `/`; the last of them is empty
abbrev pub folder_of_parts : List (List ℕ) → Option (List ℕ)
folder_of_parts parts = if list_any holds_slash parts then None else if_folder (without_last (with_slashes parts))

-- the folder that a text writes as the path of a URI does: part by part, each with `/` behind it
unfoldable pub folder_written : List ℕ → Option (List ℕ)
folder_written text = folder_of_parts (slice_split is_slash text)
