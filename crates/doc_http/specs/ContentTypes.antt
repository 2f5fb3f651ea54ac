-- Which requests send Markdown, by the values of their Content-Type fields (RFC 9110, section 8.3).
use Rattle.std.specs.Prelude.{ℕ, List, [], ◌∷◌, Bool, false, codes}
use Rattle.std.specs.Str.{str_eq_ignore_ascii_case}
use Rattle.doc_http.specs.Accepts.{media_range}

-- the media type of the value is `text/markdown` (RFC 7763), in any case and whatever its parameters
abbrev pub is_markdown : List ℕ → Bool
is_markdown value = str_eq_ignore_ascii_case (media_range value) (codes "text/markdown")

-- there is one value, and it names Markdown
unfoldable pub names_markdown : List (List ℕ) → Bool
names_markdown [] = false
names_markdown (value ∷ []) = is_markdown value
names_markdown (value ∷ another ∷ more) = false
