-- The chunked coding (RFC 9112, section 7.1).
use Rattle.std.specs.Prelude.{ℕ, zero, suc, ◌+◌, ◌||◌, ◌&&◌, ◌==◌, not, Bool, true, nat_lt, nat_le, nat_eq, List, [], ◌∷◌, ◌++◌, length}
use Rattle.std.specs.Prelude.{take, drop, Option, Some, None, if◌then◌else◌}
use Rattle.std.specs.List.{starts_with, list_all, prefix_len}
use Rattle.std.specs.Str.Parse.{digits_value}
use Rattle.std.specs.Char.{is_ascii_hexdigit}
use Rattle.doc_page_parts.specs.Lines.{is_space_or_tab}
use Rattle.doc_http_bodies.specs.declared.extent.Extent.{Extent}
use Rattle.doc_http_bodies.specs.declared.extent.Extent.TheVariants.{More, Fault, Whole}
use Rattle.doc_http_bodies.specs.declared.fault.Fault.TheVariants as faults
use Rattle.doc_http_bodies.specs.declared.size_line.SizeLine.{SizeLine}
use Rattle.doc_http_bodies.specs.declared.size_line.SizeLine.TheVariants.{Unfinished, Malformed, Size}
use Rattle.doc_http_bodies.specs.Framings.{body_limit}
use Rattle.doc_http_bodies.specs.Places.{line_end, place_of, lines_len}

-- ---- sizes

-- `;`, space or tab
abbrev pub begins_extension : ℕ → Bool
begins_extension b = b == 59 || is_space_or_tab b

-- what may stand between a size and its CR LF: nothing, or what begins with `;`, space or tab and has neither CR nor LF
-- (a chunk-ext of section 7.1.1, read widely)
abbrev pub is_extension : List ℕ → Bool
is_extension [] = true
is_extension (b ∷ rest) = begins_extension b && list_all (λ c. not (c == 13 || c == 10)) rest

-- how many hexadecimal digits stand at the front
abbrev pub hex_len : List ℕ → ℕ
hex_len line = prefix_len is_ascii_hexdigit line

-- chunk-size = 1*HEXDIG, of which there are at most 8; this project's choice
abbrev pub size_of : List ℕ → Option ℕ
size_of line =
    if nat_le 1 (hex_len line) && nat_le (hex_len line) 8 && is_extension (drop (hex_len line) line)
    then Some (digits_value 16 (take (hex_len line) line)) else None

-- by the length of a line without its CR LF, and its size
abbrev pub line_by : ℕ → Option ℕ → SizeLine
line_by len None = Malformed
line_by len (Some size) = Size (len + 2) size

-- by the bytes that the line may take, and where CR LF stands in them
abbrev pub line_in : List ℕ → Option ℕ → SizeLine
line_in front (Some len) = line_by len (size_of (take len front))
line_in front None = if nat_le 256 (length front) then Malformed else Unfinished

-- the size line at the front of the text, of at most 256 bytes with its CR LF; this project's choice
abbrev pub size_line : List ℕ → SizeLine
size_line text = line_in (take 256 text) (place_of line_end (take 256 text))

-- ---- where the body ends

-- the trailer's length: its lines up to the first empty one, which are not read (RFC 9112, section 7.1.2)
abbrev pub trailer_len : List ℕ → Option ℕ
trailer_len text = if starts_with nat_eq text line_end then Some 2 else lines_len text

abbrev pub trailed : ℕ → ℕ → Option ℕ → Extent
trailed used total None = More
trailed used total (Some len) = Whole (used + len) total

-- how the chunks go on behind so many bytes, the sum of whose sizes is the total, and before the text
abbrev pub Onward : Type 0
Onward = ℕ → ℕ → List ℕ → Extent

-- a chunk's data and CR LF, which is judged when two bytes stand there
abbrev pub after_data : Onward → ℕ → ℕ → ℕ → List ℕ → Extent
after_data onward used total size text =
    if nat_lt (length text) (size + 2) then More
    else (if starts_with nat_eq (drop size text) line_end then onward (used + (size + 2)) total (drop (size + 2) text) else Fault
    faults.Malformed)

-- behind a size: the trailer behind size 0, else data, unless the sizes add up to too much
abbrev pub after_size : Onward → ℕ → ℕ → ℕ → List ℕ → Extent
after_size onward used total size text =
    if size == 0 then trailed used total (trailer_len text)
    else (if nat_lt body_limit (total + size) then Fault faults.TooLarge else after_data onward used (total + size) size text)

abbrev pub after_line : Onward → ℕ → ℕ → List ℕ → SizeLine → Extent
after_line onward used total text Unfinished = More
after_line onward used total text Malformed = Fault faults.Malformed
after_line onward used total text (Size len size) = after_size onward (used + len) total size (drop len text)

-- at most so many chunks
unfoldable pub extent_in : ℕ → Onward
extent_in zero used total text = More
extent_in (suc fuel) used total text = after_line (λ u s t. extent_in fuel u s t) used total text (size_line text)

-- each chunk takes at least a byte
abbrev pub extent_from : Onward
extent_from used total text = extent_in (suc (length text)) used total text

-- how far the encoded body reaches at the front of the text
abbrev pub extent_of : List ℕ → Extent
extent_of text = extent_from 0 0 text

-- ---- its data

-- the data of a chunk and of those behind it; the chunk of size 0 is the last
abbrev pub data_after : (List ℕ → List ℕ) → List ℕ → SizeLine → List ℕ
data_after onward text Unfinished = []
data_after onward text Malformed = []
data_after onward text (Size len size) =
    if size == 0 then [] else take size (drop len text) ++ onward (drop (size + 2) (drop len text))

unfoldable pub data_in : ℕ → List ℕ → List ℕ
data_in zero text = []
data_in (suc fuel) text = data_after (λ t. data_in fuel t) text (size_line text)

-- the data of the chunks at the front of the text, joined
abbrev pub data_of : List ℕ → List ℕ
data_of text = data_in (suc (length text)) text
