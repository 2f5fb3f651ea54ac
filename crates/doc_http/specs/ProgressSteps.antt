-- What a step of reading a request says; words of proofs only.
use Rattle.std.specs.Prelude.{◌≡◌, ℕ, ◌==◌, List, Some, Ok, false, drop, slice_range}
use Rattle.httparse.specs.Grammar.{RequestHead}
use Rattle.doc_http_bodies.specs.declared.framing.Framing.{Framing}
use Rattle.doc_http_bodies.specs.declared.reader.Reading.{Reading}
use Rattle.doc_http_bodies.specs.Framings.{framing_of}
use Rattle.doc_http_bodies.specs.Readings.{reading_of}
use Rattle.doc_http.specs.declared.head.HeadSpan.TheVariants.{At}
use Rattle.doc_http.specs.Fields.{fields_of}
use Rattle.doc_http.specs.Heads.{head_span_of, IsHead}
use Rattle.doc_http.specs.Requests.{is_bad}

-- a good head lies there, and the bytes behind it come to this
abbrev pub CameToReading : ℕ → ℕ → Reading → List ℕ → Type 0
CameToReading start end reading bytes =
    (head : RequestHead) × (head_span_of bytes ≡ At start end) × IsHead (slice_range bytes start end) head
    × (is_bad (slice_range bytes start end) (Some head) ≡ false)
    × ((framing : Framing) × (framing_of (head.minor == 0) (fields_of head) ≡ Ok framing) × (reading ≡ reading_of framing (drop end bytes)))
