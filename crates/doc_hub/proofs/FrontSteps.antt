-- What the unread bytes of a connection begin with, as a step finds it.
use Rattle.std.proofs.Common.{◌≡◌, ℕ, List, Bool, subst}
use Rattle.std.specs.Prelude.{IsTrue}
use Rattle.doc_http_replies.specs.Replies.{is_fault_code}
use Rattle.doc_http.specs.Requests.{IsNext}
use Rattle.doc_http.specs.declared.request.Next.{Next}
use Rattle.doc_http.specs.declared.request.Next.TheVariants as nexts
use Rattle.doc_http.proofs.FaultLemmas.{faults_have_codes}

pub has_fault_code : (bytes : List ℕ) (next : Next) (code : ℕ) (bare : Bool) → next ≡ nexts.Fault code bare → IsNext bytes next
    → IsTrue (is_fault_code code)
has_fault_code bytes next code bare is found = faults_have_codes bytes code bare (subst (IsNext bytes) is found)
