-- Lines of the log as JSON (RFC 8259).
use Rattle.std.specs.Prelude.{◌≡◌, ℕ, Bool, true, List, [], ◌∷◌, ◌++◌, ◌&&◌, ◌||◌, ◌==◌, Option, Some, None, codes, decimal, nat_le, if◌then◌else◌}
use Rattle.std.specs.List.{flat_map, list_all}
use Rattle.doc_server_log.specs.declared.entry.Entry.{Entry}
use Rattle.doc_server_log.specs.Moments.{rfc3339}
use Rattle.doc_server_log.specs.Readers.{shown_reader}
use Rattle.doc_server_log.specs.RequestLines.{shown_method, shown_target}

-- a byte inside a string: `"` and `\` behind a backslash (section 7)
abbrev pub escaped_byte : ℕ → List ℕ
escaped_byte b = if (b == 34) || (b == 92) then 92 ∷ b ∷ [] else b ∷ []

unfoldable pub escaped : List ℕ → List ℕ
escaped text = flat_map escaped_byte text

-- a text without control characters as a string (section 7)
abbrev pub json_string : List ℕ → List ℕ
json_string text = codes "\"" ++ escaped text ++ codes "\""

-- a further member of an object (section 4)
abbrev pub member : List ℕ → List ℕ → List ℕ
member name value = codes ",\"" ++ name ++ codes "\":" ++ value

-- a moment as a string, or `null`
abbrev pub time_value : Option ℕ → List ℕ
time_value None = codes "null"
time_value (Some micros) = json_string (rfc3339 micros)

-- who asked, and on which connection
abbrev pub asking_members : Entry → List ℕ
asking_members entry =
    member (codes "conn") (decimal entry.connection) ++ member (codes "reader") (json_string (shown_reader entry.reader))

-- what was asked for, as in the plain form
abbrev pub request_members : Entry → List ℕ
request_members entry =
    member (codes "method") (json_string (shown_method entry.method.now))
    ++ member (codes "path") (json_string (shown_target entry.target.now))

-- what was replied
abbrev pub reply_members : Entry → List ℕ
reply_members entry =
    member (codes "code") (decimal entry.code) ++ member (codes "bytes") (decimal entry.bytes)
    ++ member (codes "us") (decimal entry.micros)

-- the object, and a line feed
abbrev pub json_line : Entry → List ℕ
json_line entry =
    codes "{\"time\":" ++ time_value entry.time ++ asking_members entry ++ request_members entry ++ reply_members entry ++ codes "}\n"

-- a printable character of ASCII
abbrev pub is_printable : ℕ → Bool
is_printable b = nat_le 32 b && nat_le b 126

-- printable ASCII, and then a line feed
abbrev pub IsOneLine : List ℕ → Type 0
IsOneLine line = (text : List ℕ) × (line ≡ text ++ codes "\n") × (list_all is_printable text ≡ true)
