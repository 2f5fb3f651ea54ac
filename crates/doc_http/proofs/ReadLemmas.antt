-- What a head that was read gives.
use Rattle.std.proofs.Common.{◌≡◌, ℕ, ◌==◌, Bool, ◌||◌, true, false, List, Some, take, map, not, refl, sym, ap, ◌∙◌, subst, if◌then◌else◌}
use Rattle.std.proofs.Common.{◌<◌, arith}
use Rattle.std.specs.Prelude.{IsUtf8, Ok, Err}
use Rattle.std.proofs.lemmas.Bool.Decides.{nat_tests}
use Rattle.std.proofs.lemmas.Str.{IsUtf8-from_ascii}
use Rattle.std.proofs.lemmas.Str.Ascii.{IsAscii-from_all}
use Rattle.std.proofs.lemmas.List.Elements.{All-weaker}
use Rattle.httparse.specs.declared.spans.HeaderSpan.{HeaderSpan}
use Rattle.httparse.specs.declared.spans.RequestSpans.{RequestSpans}
use Rattle.httparse.specs.Grammar.{RequestHead, IsToken, is_token_byte}
use Rattle.httparse.specs.Spans.{IsRequestAt, header_bytes, span_bytes}
use Rattle.doc_http.specs.declared.request.Next.TheVariants as next
use Rattle.doc_http.specs.Fields.{fields_of, has_good_counts}
use Rattle.doc_http.specs.Heads.{IsHead, has_bare_line_feed}
use Rattle.doc_http.specs.Requests.{is_bad, is_bare, request_with, next_read, next_framed, next_behind, next_with}
use Rattle.doc_http.specs.declared.request.Request.{Request}
use Rattle.doc_http_bodies.specs.declared.fault.Fault.{Fault as BodyFault}
use Rattle.doc_http_bodies.specs.declared.framing.Framing.{Framing}
use Rattle.doc_http_bodies.specs.declared.reader.Reading.{Reading}
use Rattle.doc_http_bodies.specs.Faults.{code_of}
use Rattle.doc_http_bodies.specs.Framings.{framing_of}
use Rattle.doc_http_bodies.specs.Readings.{reading_of}
use Rattle.doc_page_parts.proofs.Bools.{or_true}

method_byte_is_ascii : (b : ℕ) → is_token_byte b ≡ true → b < 128
unfolding is_token_byte
method_byte_is_ascii b token = grind (arith, nat_tests)

-- a method is text: the bytes of a token are ASCII (RFC 9110, section 5.6.2)
method_is_text : (bytes : List ℕ) → IsToken bytes → IsUtf8 bytes
method_is_text bytes token =
    IsUtf8-from_ascii _ (IsAscii-from_all _ (All-weaker (λ b. is_token_byte b ≡ true) (λ b. b < 128) method_byte_is_ascii bytes token.1))

-- ---- what makes a head bad

pub with_bare_line_feed : (text : List ℕ) (head : RequestHead) → has_bare_line_feed text ≡ true → is_bad text (Some head) ≡ true
with_bare_line_feed text head bare = ap (λ t. t || not (has_good_counts head.minor (fields_of head))) bare

module _ (text : List ℕ) (headers : List HeaderSpan) (spans : RequestSpans) (head : RequestHead) (at : IsRequestAt text headers spans head)
  where
    -- the fields, as they lie in the text
    abbrev lying : List (List ℕ × List ℕ)
    lying = map (header_bytes text) (take spans.headers headers)

    same_counts : has_good_counts spans.version (map (header_bytes text) (take spans.headers headers))
        ≡ has_good_counts head.minor (fields_of head)
    same_counts = rw (at.version, at.fields) refl

    pub with_bad_counts : has_good_counts spans.version (map (header_bytes text) (take spans.headers headers)) ≡ false
        → is_bad text (Some head) ≡ true
    with_bad_counts bad = ap (λ t. has_bare_line_feed text || not t) (sym same_counts ∙ bad) ∙ or_true (has_bare_line_feed text)

    pub method_text : IsHead text head → IsUtf8 (span_bytes text spans.method)
    method_text is = subst IsUtf8 (sym at.method) (method_is_text head.method is.0.0.method)

    -- ---- what a good head comes to, by the places of its parts

    pub framed_by_parts : framing_of (head.minor == 0) (fields_of head)
        ≡ framing_of (spans.version == 0) (map (header_bytes text) (take spans.headers headers))
    framed_by_parts = rw (at.version, at.fields) refl

    by_parts : (end : ℕ) (rest : List ℕ) → is_bad text (Some head) ≡ false → next_behind text (Some head) end rest
        ≡ next_with (span_bytes text spans.method) (span_bytes text spans.path) spans.version
        (map (header_bytes text) (take spans.headers headers)) end rest
    unfolding next_behind
    by_parts end rest good =
        ap (λ t. if t then next.Fault 400 false else next_with head.method head.target head.minor (fields_of head) end rest) good
        ∙ rw (at.method, at.path, at.version, at.fields) refl

    pub with_fault : (end : ℕ) (rest : List ℕ) (fault : BodyFault) (code : ℕ) (bare : Bool) → is_bad text (Some head) ≡ false
        → Err fault ≡ framing_of (spans.version == 0) (map (header_bytes text) (take spans.headers headers))
        → code ≡ code_of fault → bare ≡ is_bare (span_bytes text spans.method)
        → next.Fault code bare ≡ next_behind text (Some head) end rest
    with_fault end rest fault code bare good is code_is bare_is =
        ap (λ c. next.Fault c bare) code_is ∙ ap (next.Fault (code_of fault)) bare_is
        ∙ ap (next_framed (λ body. request_with (span_bytes text spans.method) (span_bytes text spans.path) spans.version lying body)
        (is_bare (span_bytes text spans.method)) end rest) is
        ∙ sym (by_parts end rest good)

    pub read_by_parts : (end : ℕ) (reading : Reading)
        → next_read (λ body. request_with (span_bytes text spans.method) (span_bytes text spans.path) spans.version
        (map (header_bytes text) (take spans.headers headers)) body) (is_bare (span_bytes text spans.method)) end reading
        ≡ next_read (λ body. request_with head.method head.target head.minor (fields_of head) body) (is_bare head.method) end reading
    read_by_parts end reading = rw (at.method, at.path, at.version, at.fields) refl

-- what a good head comes to, by the framing of the body
pub with_reading : (text : List ℕ) (head : RequestHead) (end : ℕ) (rest : List ℕ) (framing : Framing) (reading : Reading)
    → is_bad text (Some head) ≡ false
    → framing_of (head.minor == 0) (fields_of head) ≡ Ok framing → reading ≡ reading_of framing rest
    → next_read (λ body. request_with head.method head.target head.minor (fields_of head) body) (is_bare head.method) end reading
    ≡ next_behind text (Some head) end rest
unfolding next_behind
with_reading text head end rest framing reading good is reading_is =
    let request : List ℕ → Request = λ body. request_with head.method head.target head.minor (fields_of head) body in
    ap (next_read request (is_bare head.method) end) reading_is
    ∙ sym (ap (next_framed request (is_bare head.method) end rest) is)
    ∙ sym (ap (λ t. if t then next.Fault 400 false else next_with head.method head.target head.minor (fields_of head) end rest) good)
