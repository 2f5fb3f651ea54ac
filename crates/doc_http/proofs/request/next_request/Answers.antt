use Rattle.std.proofs.Common.{length}
use Rattle.std.proofs.lemmas.Result.{IfOk-weaker}
use Rattle.doc_http.specs.Requests.{UsesAtMost}
use Rattle.doc_http.proofs.LawLemmas.{uses_what_stands}
use Rattle.doc_http.proofs.request.next_request.Goals as goal

pub returns-clause-within : goal.returns-clause-within
returns-clause-within c =
    IfOk-weaker c.next.result _ (UsesAtMost (length c.args.bytes.now)) (λ next is. uses_what_stands c.args.bytes.now next is)
    c.next.ensures.found
