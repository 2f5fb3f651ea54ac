-- Which requests ask for the pages for people, by the values of their Accept fields (RFC 9110, section 12.5.1).
use Rattle.std.specs.Prelude.{ℕ, List, Bool, ◌==◌, codes}
use Rattle.std.specs.List.{before_first, list_any, slice_split}
use Rattle.std.specs.Str.{str_eq_ignore_ascii_case}
use Rattle.doc_page_parts.specs.Lines.{stripped}

-- the parts of a value, between its commas
abbrev pub ranges : List ℕ → List (List ℕ)
ranges value = slice_split (λ b. b == 44) value

-- what stands before the first `;` of a part, or all of it, without spaces and tabs at both ends
abbrev pub media_range : List ℕ → List ℕ
media_range part = stripped (before_first (λ b. b == 59) part)

-- the part names `text/html`, in any case. Weights aren't read: this project's choice
abbrev pub is_html : List ℕ → Bool
is_html part = str_eq_ignore_ascii_case (media_range part) (codes "text/html")

-- one of the values has a part that names `text/html`
unfoldable pub names_html : List (List ℕ) → Bool
names_html values = list_any (λ value. list_any is_html (ranges value)) values
