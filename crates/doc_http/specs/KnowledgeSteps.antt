-- What is known of the unread bytes of a connection, so that they are not looked at again.
use Rattle.std.specs.Prelude.{◌≡◌, ◌≤◌, ℕ, ◌==◌, ◌++◌, List, Some, Ok, false, length, take, drop, slice_range}
use Rattle.httparse.specs.Grammar.{RequestHead}
use Rattle.doc_http_bodies.specs.declared.reader.BodyReader.{BodyReader}
use Rattle.doc_http_bodies.specs.Framings.{framing_of}
use Rattle.doc_http_bodies.specs.KnowledgeSteps.{KnowsOf, framing_of as framing_for}
use Rattle.doc_http_bodies.specs.Places.{blank_line, IsSearched}
use Rattle.doc_http.specs.declared.head.HeadSearch.{HeadSearch}
use Rattle.doc_http.specs.declared.head.HeadSpan.TheVariants.{At}
use Rattle.doc_http.specs.declared.progress.Progress.{Progress}
use Rattle.doc_http.specs.declared.progress.Progress.TheVariants.{Head, Body}
use Rattle.doc_http.specs.Fields.{fields_of}
use Rattle.doc_http.specs.Heads.{skip_empty_lines, head_limit, head_span_of, IsHead}
use Rattle.doc_http.specs.Requests.{is_bad}

-- the first `start` bytes are empty lines, and no head ends in the first `searched` bytes behind all empty lines
abbrev pub CameTo : HeadSearch → List ℕ → Type 0
CameTo search front =
    (search.start ≤ length front) × (skip_empty_lines front ≡ skip_empty_lines (drop search.start front))
    × IsSearched blank_line search.searched (skip_empty_lines front)

-- a good head lies there, and the reader is one of the body behind it
abbrev pub IsAtBody : ℕ → ℕ → BodyReader → List ℕ → Type 0
IsAtBody start end reader bytes =
    (head : RequestHead) × (head_span_of bytes ≡ At start end) × IsHead (slice_range bytes start end) head
    × (is_bad (slice_range bytes start end) (Some head) ≡ false)
    × (framing_of (head.minor == 0) (fields_of head) ≡ Ok (framing_for reader))
    × KnowsOf reader (drop end bytes)

-- what is known is true of these bytes
abbrev pub Holds : Progress → List ℕ → Type 0
Holds (Head search) bytes = CameTo search (take head_limit bytes)
Holds (Body start end reader) bytes = IsAtBody start end reader bytes

-- so it is whatever follows the bytes that were seen
unfoldable pub Knows : Progress → List ℕ → Type 0
Knows progress seen = (more : List ℕ) → Holds progress (seen ++ more)
