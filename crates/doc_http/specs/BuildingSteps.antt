-- What the building of a request asks for, and what it makes; words of private clauses and proofs.
use Rattle.std.specs.Prelude.{◌<◌, ⊤, ℕ, ◌+◌, ◌^◌, List, map}
use Rattle.httparse.specs.Spans.{header_bytes, span_bytes}
use Rattle.httparse.specs.declared.spans.HeaderSpan.{HeaderSpan}
use Rattle.httparse.specs.declared.spans.RequestSpans.{RequestSpans}
use Rattle.doc_http.specs.declared.request.Next.{Next}
use Rattle.doc_http.specs.declared.request.Request.{Request}
use Rattle.doc_http.specs.Requests.{is_bare, next_read, request_with}
use Rattle.doc_http_bodies.specs.declared.reader.Reading.{Reading}
use Rattle.doc_http_bodies.specs.declared.reader.Reading.TheVariants.{More, Fault, Whole}

-- the place behind the body is a number of the machine
abbrev pub EndsWithin : ℕ → Reading → Type 0
EndsWithin end More = ⊤
EndsWithin end (Fault fault) = ⊤
EndsWithin end (Whole used body) = end + used < 2 ^ 64

-- the request whose head has this text and its parts at these places
abbrev pub request_at_spans : List ℕ → RequestSpans → List HeaderSpan → List ℕ → Request
request_at_spans text spans headers body =
    request_with (span_bytes text spans.method) (span_bytes text spans.path) spans.version (map (header_bytes text) headers) body

-- what bytes begin with whose head has this text and ends at `end`, by what the bytes behind it come to
abbrev pub next_at_spans : List ℕ → RequestSpans → List HeaderSpan → ℕ → Reading → Next
next_at_spans text spans headers end reading =
    next_read (λ body. request_at_spans text spans headers body) (is_bare (span_bytes text spans.method)) end reading
