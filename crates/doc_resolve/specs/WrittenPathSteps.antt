-- What the private functions of the module `written_paths` answer: parts of the definitions in WrittenPaths, as the code takes them.
use Rattle.std.specs.Prelude.{ℕ, List, [], ◌∷◌, ◌++◌, Bool, false, codes, Option, Some, None, option_map, if◌then◌else◌}
use Rattle.std.specs.Str.{is_utf8}
use Rattle.percent_encoding.specs.Percent.{percent_decode}
use Rattle.doc_page_parts.specs.Pages.{is_empty}
use Rattle.doc_resolve.specs.WrittenPaths.{holds_slash, if_path}

-- one segment more, decoded, in front of others that are
abbrev pub with_decoded : List ℕ → Option (List ℕ) → Option (List ℕ)
with_decoded segment others = if holds_slash segment then None else option_map (λ rest. 47 ∷ segment ++ rest) others

-- the segments decoded, each after a `/`, where none of them holds one
abbrev pub decoded_segments : List (List ℕ) → Option (List ℕ)
decoded_segments [] = Some []
decoded_segments (written ∷ rest) = with_decoded (percent_decode written) (decoded_segments rest)

-- the last segment is empty
abbrev pub ends_empty : List (List ℕ) → Bool
ends_empty [] = false
ends_empty (s ∷ []) = is_empty s
ends_empty (s ∷ t ∷ rest) = ends_empty (t ∷ rest)

-- what stands behind the last `/`
abbrev pub index_of : List (List ℕ) → List ℕ
index_of parts = if ends_empty parts then codes "index.md" else []

-- the path that the bytes are, where they are UTF-8 and a path
abbrev pub path_of_bytes : List ℕ → Option (List ℕ)
path_of_bytes bytes = if is_utf8 bytes then if_path bytes else None
