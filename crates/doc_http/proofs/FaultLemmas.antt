-- The codes of faults.
use Rattle.std.proofs.Common.{ℕ, List, Bool, true, false, refl, sym, subst}
use Rattle.std.specs.Prelude.{IsTrue, ⊤, ◌==◌, Option, Some, None, Result, Ok, Err, if◌then◌else◌, drop, slice_range}
use Rattle.httparse.specs.Grammar.{RequestHead}
use Rattle.doc_http.specs.Fields.{fields_of}
use Rattle.doc_http.specs.Heads.{head_span_of}
use Rattle.doc_http.specs.Requests.{is_bad, is_bare, next_at, next_behind, next_framed, next_read, request_with}
use Rattle.doc_http.specs.declared.head.HeadSpan.{HeadSpan}
use Rattle.doc_http.specs.declared.head.HeadSpan.TheVariants.{Unfinished, TooLong, At}
use Rattle.doc_http_bodies.specs.declared.fault.Fault.{Fault as BodyFault}
use Rattle.doc_http_bodies.specs.declared.framing.Framing.{Framing}
use Rattle.doc_http_bodies.specs.declared.reader.Reading.{Reading}
use Rattle.doc_http_bodies.specs.declared.reader.Reading.TheVariants.{More, Fault, Whole}
use Rattle.doc_http_bodies.specs.Framings.{framing_of}
use Rattle.doc_http_bodies.specs.Readings.{reading_of}
use Rattle.doc_http_bodies.specs.declared.fault.Fault.TheVariants as faults
use Rattle.doc_http_bodies.specs.Faults.{code_of}
use Rattle.doc_http.specs.declared.request.Next.{Next}
use Rattle.doc_http.specs.declared.request.Next.TheVariants as nexts
use Rattle.doc_http.specs.declared.request.Request.{Request}
use Rattle.doc_http.specs.Laws.{FaultsHaveCodes}
use Rattle.doc_http_replies.specs.Replies.{is_fault_code}

-- if it is a fault, its code is one of a fault
abbrev HasCode : Next → Type 0
HasCode nexts.More = ⊤
HasCode (nexts.Request used request) = ⊤
HasCode (nexts.Fault code bare) = IsTrue (is_fault_code code)

by_fault : (fault : BodyFault) → IsTrue (is_fault_code (code_of fault))
by_fault faults.Malformed = refl
by_fault faults.TooLarge = refl
by_fault faults.Unsupported = refl

by_reading : (request : List ℕ → Request) (bare : Bool) (end : ℕ) (reading : Reading) → HasCode (next_read request bare end reading)
by_reading request bare end More = tt
by_reading request bare end (Fault fault) = by_fault fault
by_reading request bare end (Whole used body) = tt

by_framing : (request : List ℕ → Request) (bare : Bool) (end : ℕ) (rest : List ℕ) (framing : Result Framing BodyFault)
    → HasCode (next_framed request bare end rest framing)
by_framing request bare end rest (Err fault) = by_fault fault
by_framing request bare end rest (Ok framing) = by_reading request bare end (reading_of framing rest)

by_counts : (t : Bool) (next : Next) → HasCode next → HasCode (if t then nexts.Fault 400 false else next)
by_counts true next h = refl
by_counts false next h = h

behind_has_code : (text : List ℕ) (read : Option RequestHead) (end : ℕ) (rest : List ℕ) → HasCode (next_behind text read end rest)
unfolding next_behind
behind_has_code text None end rest = refl
behind_has_code text (Some head) end rest =
    by_counts (is_bad text (Some head)) _
    (by_framing (λ body. request_with head.method head.target head.minor (fields_of head) body) (is_bare head.method) end rest
    (framing_of (head.minor == 0) (fields_of head)))

next_has_code : (bytes : List ℕ) (span : HeadSpan) (read : Option RequestHead) → HasCode (next_at bytes span read)
next_has_code bytes Unfinished read = tt
next_has_code bytes TooLong read = refl
next_has_code bytes (At start end) read = behind_has_code (slice_range bytes start end) read end (drop end bytes)

pub faults_have_codes : FaultsHaveCodes
faults_have_codes bytes code bare (read, is, e) = subst HasCode (sym e) (next_has_code bytes (head_span_of bytes) read)
