-- What the unread bytes of a connection begin with.
use Rattle.std.specs.Prelude.{◌≡◌, ◌≤◌, ⊤, ℕ, ◌+◌, ◌==◌, ◌||◌, not, Bool, true, false, List, Option, Some, None, Result, Ok, Err, drop}
use Rattle.std.specs.Prelude.{slice_range, codes, bytes_eq, if◌then◌else◌}
use Rattle.httparse.specs.Grammar.{RequestHead}
use Rattle.doc_http_bodies.specs.declared.fault.Fault.{Fault as BodyFault}
use Rattle.doc_http_bodies.specs.declared.framing.Framing.{Framing}
use Rattle.doc_http_bodies.specs.declared.reader.Reading.{Reading}
use Rattle.doc_http_bodies.specs.declared.reader.Reading.TheVariants.{More, Fault, Whole}
use Rattle.doc_http_bodies.specs.Faults.{code_of}
use Rattle.doc_http_bodies.specs.Fields.{Fields, values_named}
use Rattle.doc_http_bodies.specs.Framings.{framing_of}
use Rattle.doc_http_bodies.specs.Readings.{reading_of}
use Rattle.doc_http.specs.declared.head.HeadSpan.{HeadSpan}
use Rattle.doc_http.specs.declared.head.HeadSpan.TheVariants.{Unfinished, TooLong, At}
use Rattle.doc_http.specs.declared.request.Request.{Request}
use Rattle.doc_http.specs.declared.request.Next.{Next}
use Rattle.doc_http.specs.declared.request.Next.TheVariants as next
use Rattle.doc_http.specs.Accepts.{names_html}
use Rattle.doc_http.specs.Conditions.{joined_values}
use Rattle.doc_http.specs.ContentTypes.{names_markdown}
use Rattle.doc_http.specs.Fields.{fields_of, value_named, has_good_counts, asks_close}
use Rattle.doc_http.specs.Heads.{head_span_of, IsRead, has_bare_line_feed}

-- whether the reply to the method is its head alone: HEAD, and no other case of it (RFC 9110, sections 9.1 and 9.3.2)
abbrev pub is_bare : List ℕ → Bool
is_bare method = bytes_eq method (codes "HEAD")

-- the request with these parts of its head, and this body (RFC 9112, section 2.1)
abbrev pub request_with : List ℕ → List ℕ → ℕ → Fields → List ℕ → Request
request_with method target minor fields body = record {
  method = method;
  target = target;
  authorization = value_named (codes "authorization") fields;
  close = asks_close minor fields;
  html = names_html (values_named (codes "accept") fields);
  markdown = names_markdown (values_named (codes "content-type") fields);
  if_match = joined_values (values_named (codes "if-match") fields);
  if_none_match = joined_values (values_named (codes "if-none-match") fields);
  body = body;
}

-- by what the bytes behind the head come to, which ends at `end`
abbrev pub next_read : (List ℕ → Request) → Bool → ℕ → Reading → Next
next_read request bare end More = next.More
next_read request bare end (Fault fault) = next.Fault (code_of fault) bare
next_read request bare end (Whole used body) = next.Request (end + used) (request body)

-- by how the head frames the body in the bytes `rest` behind it (RFC 9112, section 6)
abbrev pub next_framed : (List ℕ → Request) → Bool → ℕ → List ℕ → Result Framing BodyFault → Next
next_framed request bare end rest (Err fault) = next.Fault (code_of fault) bare
next_framed request bare end rest (Ok framing) = next_read request bare end (reading_of framing rest)

-- the same of a request with these parts of its head
abbrev pub next_with : List ℕ → List ℕ → ℕ → Fields → ℕ → List ℕ → Next
next_with method target minor fields end rest =
    next_framed (λ body. request_with method target minor fields body) (is_bare method) end rest (framing_of (minor == 0) fields)

-- whether the text is no head that a request may have, by the head that was read of it
abbrev pub is_bad : List ℕ → Option RequestHead → Bool
is_bad text None = true
is_bad text (Some head) = has_bare_line_feed text || not (has_good_counts head.minor (fields_of head))

-- by the text of the head, which ends at `end`, and the head that was read of it
unfoldable pub next_behind : List ℕ → Option RequestHead → ℕ → List ℕ → Next
next_behind text None end rest = next.Fault 400 false
next_behind text (Some head) end rest =
    if is_bad text (Some head) then next.Fault 400 false
    else next_with head.method head.target head.minor (fields_of head) end rest

-- by where the head lies, and the head that was read there
abbrev pub next_at : List ℕ → HeadSpan → Option RequestHead → Next
next_at bytes Unfinished read = next.More
next_at bytes TooLong read = next.Fault 431 false
next_at bytes (At start end) read = next_behind (slice_range bytes start end) read end (drop end bytes)

-- a whole request, a fault, or neither yet: by the bytes and the head that was read at their front (RFC 9112, section 2; RFC 6585, section
-- 5)
abbrev pub request_of : List ℕ → Option RequestHead → Next
request_of bytes read = next_at bytes (head_span_of bytes) read

-- what is read where the head lies: nothing where none ends
abbrev pub IsReadAt : List ℕ → HeadSpan → Option RequestHead → Type 0
IsReadAt bytes Unfinished read = read ≡ None
IsReadAt bytes TooLong read = read ≡ None
IsReadAt bytes (At start end) read = IsRead (slice_range bytes start end) read

-- what the bytes begin with, when their head is read by the grammar of RFC 9112
abbrev pub IsNext : List ℕ → Next → Type 0
IsNext bytes found =
    (read : Option RequestHead) × IsReadAt bytes (head_span_of bytes) read × (found ≡ request_of bytes read)

-- it is a whole request
abbrev pub IsRequest : Next → Type 0
IsRequest (next.Request used request) = ⊤
IsRequest other = ⊥

-- the bytes begin with a whole request
abbrev pub BeginsWithRequest : List ℕ → Type 0
BeginsWithRequest bytes = (found : Next) × IsNext bytes found × IsRequest found

-- a request takes at most n bytes
abbrev pub UsesAtMost : ℕ → Next → Type 0
UsesAtMost n next.More = ⊤
UsesAtMost n (next.Fault code bare) = ⊤
UsesAtMost n (next.Request used request) = used ≤ n
