-- Paths of pages.
use Rattle.std.specs.Prelude.{ℕ, List, [], length, Bool, not, ◌&&◌, ◌||◌, ◌==◌, nat_lt, nat_le, codes, Result, Ok, Err, if◌then◌else◌}
use Rattle.std.specs.List.{slice_split, list_all}
use Rattle.std.specs.Cmp.Lexicographic.{pointwise}
use Rattle.std.specs.Str.{chars}
use Rattle.doc_page_parts.specs.declared.path.PathError.{PathError}
use Rattle.doc_page_parts.specs.declared.path.PathError.TheVariants.{BadPath}

-- the parts of a path, between its slashes (RFC 3986, section 3.3)
abbrev pub segments : List ℕ → List (List ℕ)
segments text = slice_split (λ b. b == 47) text

-- neither empty nor a dot segment, `.` or `..` (RFC 3986, section 3.3); this project's choice
abbrev pub is_segment : List ℕ → Bool
is_segment segment =
    not (pointwise ◌==◌ segment []) && not (pointwise ◌==◌ segment (codes "."))
    && not (pointwise ◌==◌ segment (codes ".."))

-- the control characters, U+0000 to U+001F and U+007F to U+009F (Unicode, category Cc)
abbrev pub is_control : ℕ → Bool
is_control c = nat_lt c 0x20 || (nat_le 0x7F c && nat_le c 0x9F)

-- no control character, and none of `\`, `%`, `?` and `#`; this project's choice
abbrev pub is_path_char : ℕ → Bool
is_path_char c = not (is_control c || c == 92 || c == 37 || c == 63 || c == 35)

-- at most 200 bytes and 16 segments, and all segments and characters good; this project's choice
unfoldable pub is_path : List ℕ → Bool
is_path text =
    nat_le (length text) 200 && nat_le (length (segments text)) 16
    && list_all is_segment (segments text) && list_all is_path_char (chars text)

-- the path that a text is, which is the text itself, or the refusal
abbrev pub path_of : List ℕ → Result (List ℕ) PathError
path_of text = if is_path text then Ok text else Err BadPath
