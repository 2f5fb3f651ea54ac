-- How the path of a URI writes the path of a page.
use Rattle.std.specs.Prelude.{ℕ, List, [], ◌∷◌, map, Bool, not, ◌&&◌, ◌==◌, codes, Option, Some, None, option_map, option_and_then}
use Rattle.std.specs.Prelude.{if◌then◌else◌}
use Rattle.std.specs.List.{join_with_byte, list_any}
use Rattle.std.specs.Str.{is_utf8}
use Rattle.percent_encoding.specs.Percent.{percent_decode}
use Rattle.doc_page_parts.specs.Pages.{is_empty}
use Rattle.doc_page_parts.specs.Paths.{is_path}

-- a path that is empty or ends in `/` is that of the page `index.md` there (this project's choice)
abbrev pub with_index : List (List ℕ) → List (List ℕ)
with_index [] = []
with_index (s ∷ []) = (if is_empty s then codes "index.md" else s) ∷ []
with_index (s ∷ t ∷ rest) = s ∷ with_index (t ∷ rest)

-- the text holds a `/`
abbrev pub holds_slash : List ℕ → Bool
holds_slash text = list_any (λ b. b == 47) text

-- what a written segment stands for (RFC 3986, section 2.1; a `%` that two hexadecimal digits don't follow stays as it is), where that is
-- UTF-8 and holds no `/`
abbrev pub segment_of : List ℕ → Option (List ℕ)
segment_of written =
    let segment = percent_decode written in
    if is_utf8 segment && not (holds_slash segment) then Some segment else None

-- all the texts, where none is missing
abbrev pub all_of : List (Option (List ℕ)) → Option (List (List ℕ))
all_of [] = Some []
all_of (None ∷ rest) = None
all_of (Some text ∷ rest) = option_map (λ more. text ∷ more) (all_of rest)

-- the text, where it is the path of a page
abbrev pub if_path : List ℕ → Option (List ℕ)
if_path text = if is_path text then Some text else None

-- the path of the page that these segments write, where there is one (this project's choice)
unfoldable pub path_written : List (List ℕ) → Option (List ℕ)
path_written parts =
    option_and_then (λ texts. if_path (join_with_byte 47 texts)) (all_of (map segment_of (with_index parts)))
