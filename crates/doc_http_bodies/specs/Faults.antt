-- The codes of faults.
use Rattle.std.specs.Prelude.{ℕ}
use Rattle.doc_http_bodies.specs.declared.fault.Fault.{Fault}
use Rattle.doc_http_bodies.specs.declared.fault.Fault.TheVariants as faults

-- 400 Bad Request, 413 Content Too Large, 501 Not Implemented (RFC 9110, sections 15.5.1, 15.5.14 and 15.6.2)
abbrev pub code_of : Fault → ℕ
code_of faults.Malformed = 400
code_of faults.TooLarge = 413
code_of faults.Unsupported = 501
