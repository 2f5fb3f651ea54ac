-- What is known of unread bytes, and what they begin with.
use Rattle.std.proofs.Common.{◌≡◌, ℕ, ◌==◌, ◌-◌, ◌<◌, ◌^◌, true, false, List, [], ◌++◌, Option, Some, None, length, take, drop}
use Rattle.std.proofs.Common.{slice_range, refl, ap, sym, ◌∙◌, subst, arith, length-drop, append-nil}
use Rattle.std.specs.Prelude.{Ok, if◌then◌else◌}
use Rattle.std.proofs.lemmas.Bool.{true≢false}
use Rattle.std.proofs.lemmas.List.{drop-append-le, append_assoc, take_rest}
use Rattle.httparse.proofs.GrammarLemmas.{request_unique}
use Rattle.httparse.specs.Grammar.{RequestHead}
use Rattle.doc_http_bodies.specs.declared.framing.Framing.{Framing}
use Rattle.doc_http_bodies.specs.declared.reader.BodyReader.{BodyReader}
use Rattle.doc_http_bodies.specs.declared.reader.Reading.{Reading}
use Rattle.doc_http_bodies.specs.declared.reader.Reading.TheVariants.{More, Fault, Whole}
use Rattle.doc_http_bodies.specs.Framings.{framing_of}
use Rattle.doc_http_bodies.specs.KnowledgeSteps.{KnowsOf}
use Rattle.doc_http_bodies.specs.Readings.{reading_of, IsWhole}
use Rattle.doc_http_bodies.proofs.LawLemmas.{knows_more, takes_bytes}
use Rattle.doc_http.specs.declared.head.HeadSearch.{HeadSearch}
use Rattle.doc_http.specs.declared.head.HeadSpan.{HeadSpan}
use Rattle.doc_http.specs.declared.head.HeadSpan.TheVariants.{At}
use Rattle.doc_http.specs.declared.progress.Progress.{Progress}
use Rattle.doc_http.specs.declared.progress.Progress.TheVariants.{Head, Body}
use Rattle.doc_http.specs.declared.request.Next.{Next}
use Rattle.doc_http.specs.declared.request.Next.TheVariants as next
use Rattle.doc_http.specs.BuildingSteps.{EndsWithin}
use Rattle.doc_http.specs.Fields.{fields_of}
use Rattle.doc_http.specs.Heads.{head_limit, head_span_of, IsHead, IsRead}
use Rattle.doc_http.specs.KnowledgeSteps.{CameTo, IsAtBody, Holds, Knows}
use Rattle.doc_http.specs.Requests.{is_bad, is_bare, request_with, next_read, next_with, next_behind, next_at, IsReadAt, IsNext, IsRequest}
use Rattle.doc_http.specs.Requests.{BeginsWithRequest}
use Rattle.doc_http.proofs.LawLemmas.{same_text}
use Rattle.doc_http.proofs.ReadLemmas.{with_reading}
use Rattle.doc_http.proofs.SpanLemmas.{StaysSettled, span_stays, places}

-- ---- what is known

-- it is true of the bytes that were seen
pub holds_now : (progress : Progress) (bytes : List ℕ) → Knows progress bytes → Holds progress bytes
unfolding Knows
holds_now progress bytes knows = subst (λ b. Holds progress b) (append-nil bytes) (knows [])

-- it stays true when more bytes follow
pub knows_more_bytes : (progress : Progress) (bytes more : List ℕ) → Knows progress bytes → Knows progress (bytes ++ more)
unfolding Knows
knows_more_bytes progress bytes more knows after = subst (λ b. Holds progress b) (sym (append_assoc bytes more after))
    (knows (more ++ after))

pub knows_head : (search : HeadSearch) (bytes : List ℕ) → ((more : List ℕ) → CameTo search (take head_limit (bytes ++ more)))
    → Knows (Head search) bytes
unfolding Knows
knows_head search bytes came = came

pub knows_body : (start end : ℕ) (reader : BodyReader) (bytes : List ℕ) → IsAtBody start end reader bytes
    → Knows (Body start end reader) bytes
unfolding Knows
knows_body start end reader bytes (head, lies, is_head, good, framed, knows) more =
    let inside = places bytes start end (sym lies) in
    let text = same_text bytes more start end inside.0 inside.1 in
    let P : HeadSpan → Type 0 = λ span. StaysSettled span (head_span_of (bytes ++ more)) in (
      head,
      subst P lies (span_stays bytes more),
      subst (λ t. IsHead t head) (sym text) is_head,
      ap (λ t. is_bad t (Some head)) text ∙ good,
      framed,
      subst (λ r. KnowsOf reader r) (sym (drop-append-le end bytes more inside.1)) (knows_more reader (drop end bytes) more knows),
    )

-- ---- what the bytes begin with

next_by_span : (bytes : List ℕ) (span : HeadSpan) → head_span_of bytes ≡ span → (read : Option RequestHead) → IsReadAt bytes span read
    → (found : Next) → found ≡ next_at bytes span read → IsNext bytes found
next_by_span bytes span lies read is found e =
    (read, subst (λ s. IsReadAt bytes s read) (sym lies) is, e ∙ ap (λ s. next_at bytes s read) (sym lies))

bad_behind : (text : List ℕ) (read : Option RequestHead) (end : ℕ) (rest : List ℕ) → is_bad text read ≡ true
    → next.Fault 400 false ≡ next_behind text read end rest
unfolding next_behind
bad_behind text None end rest bad = refl
bad_behind text (Some head) end rest bad = sym
    (ap (λ t. if t then next.Fault 400 false else next_with head.method head.target head.minor (fields_of head) end rest) bad)

module _ (bytes : List ℕ) (start end : ℕ) (lies : head_span_of bytes ≡ At start end) where
  pub bad_head : (read : Option RequestHead) → IsRead (slice_range bytes start end) read → is_bad (slice_range bytes start end) read ≡ true
      → (found : Next) → found ≡ next.Fault 400 false → IsNext bytes found
  bad_head read is bad found e =
      next_by_span bytes (At start end) lies read is found (e ∙ bad_behind (slice_range bytes start end) read end (drop end bytes) bad)

  pub good_head : (head : RequestHead) → IsHead (slice_range bytes start end) head → (found : Next)
      → found ≡ next_behind (slice_range bytes start end) (Some head) end (drop end bytes) → IsNext bytes found
  good_head head is found e = next_by_span bytes (At start end) lies (Some head) is found e

  module _ (head : RequestHead) (is_head : IsHead (slice_range bytes start end) head)
      (good : is_bad (slice_range bytes start end) (Some head) ≡ false)
      (framing : Framing) (framed : framing_of (head.minor == 0) (fields_of head) ≡ Ok framing) where
    abbrev read_so : Reading → Next
    read_so reading = next_read (λ body. request_with head.method head.target head.minor (fields_of head) body) (is_bare head.method) end
        reading

    pub reading_found : (reading : Reading) → reading ≡ reading_of framing (drop end bytes) → (found : Next)
        → found ≡ next_read (λ body. request_with head.method head.target head.minor (fields_of head) body) (is_bare head.method) end
        reading → IsNext bytes found
    reading_found reading is found e =
        good_head head is_head found (e ∙ with_reading (slice_range bytes start end) head end (drop end bytes) framing reading good framed
        is)

    pub reading_begins : (reading : Reading) → reading ≡ reading_of framing (drop end bytes)
        → IsRequest (next_read (λ body. request_with head.method head.target head.minor (fields_of head) body) (is_bare head.method) end
        reading) → BeginsWithRequest bytes
    reading_begins reading is request = (read_so reading, reading_found reading is (read_so reading) refl, request)

    whole_is_request : (reading : Reading) → IsWhole reading → IsRequest (read_so reading)
    whole_is_request More whole = absurd whole
    whole_is_request (Fault fault) whole = absurd whole
    whole_is_request (Whole used body) whole = tt

    pub whole_begins : IsWhole (reading_of framing (drop end bytes)) → BeginsWithRequest bytes
    whole_begins whole = reading_begins (reading_of framing (drop end bytes)) refl
        (whole_is_request (reading_of framing (drop end bytes)) whole)

-- ---- the place behind the body

pub ends_within : (bytes : List ℕ) (start end : ℕ) → head_span_of bytes ≡ At start end → length bytes < 2 ^ 64
    → (framing : Framing) (reading : Reading) → reading ≡ reading_of framing (drop end bytes) → EndsWithin end reading
ends_within bytes start end lies fits framing More is = tt
ends_within bytes start end lies fits framing (Fault fault) is = tt
ends_within bytes start end lies fits framing (Whole used body) is =
    let inside = places bytes start end (sym lies) in
    let taken = takes_bytes framing (drop end bytes) body used (sym is) in
    omega (arith, inside.1, taken, length-drop end bytes)

-- ---- the bytes behind the head, as a part of all

pub at_rest : (bytes : List ℕ) (end : ℕ) (known framing : Framing) (reading : Reading) → known ≡ framing
    → reading ≡ reading_of known (take (length bytes - end) (drop end bytes)) → reading ≡ reading_of framing (drop end bytes)
at_rest bytes end known framing reading same is =
    is ∙ ap (λ f. reading_of f (take (length bytes - end) (drop end bytes))) same ∙ ap (reading_of framing) (take_rest bytes end)

pub whole_rest : (bytes : List ℕ) (end : ℕ) (known framing : Framing) → known ≡ framing
    → IsWhole (reading_of known (take (length bytes - end) (drop end bytes))) → IsWhole (reading_of framing (drop end bytes))
whole_rest bytes end known framing same whole =
    subst IsWhole (at_rest bytes end known framing (reading_of known (take (length bytes - end) (drop end bytes))) same refl) whole

pub knows_rest : (bytes : List ℕ) (end : ℕ) (reader : BodyReader) → KnowsOf reader (take (length bytes - end) (drop end bytes))
    → KnowsOf reader (drop end bytes)
knows_rest bytes end reader knows = subst (λ r. KnowsOf reader r) (take_rest bytes end) knows

-- a good head is the one that is read
pub read_again : (text : List ℕ) (x y : RequestHead) → IsHead text x → IsHead text y → x ≡ y
read_again text x y a b = (request_unique text x y [] [] a.0 b.0).0

pub not_bad : (text : List ℕ) (head : RequestHead) → IsHead text head → is_bad text (Some head) ≡ false
    → (read : Option RequestHead) → IsRead text read → is_bad text read ≡ true → ⊥
not_bad text head is_head good None is bad = is head is_head
not_bad text head is_head good (Some other) is bad =
    let same : is_bad text (Some other) ≡ is_bad text (Some head) = ap (λ h. is_bad text (Some h)) (read_again text other head is is_head)
    in
    true≢false (sym bad ∙ same ∙ good)

-- ---- the unread bytes

pub pushed : (progress : Progress) (old new more : List ℕ) → new ≡ old ++ more → Knows progress old → Knows progress new
pushed progress old new more is knows = subst (λ b. Knows progress b) (sym is) (knows_more_bytes progress old more knows)
