use Rattle.std.proofs.Common.{length, ◌∙◌, subst}
use Rattle.std.proofs.lemmas.Result.{IfOk-weaker}
use Rattle.doc_http.specs.Requests.{IsNext, UsesAtMost}
use Rattle.doc_http.proofs.LawLemmas.{uses_what_stands}
use Rattle.doc_http.proofs.unread.Unread.next_request.Goals as goal

pub returns-clause-within : goal.returns-clause-within
returns-clause-within c =
    IfOk-weaker c.next.result _ (UsesAtMost (length c.args.self.now))
    (λ next is. uses_what_stands c.args.self.now next (subst (λ b. IsNext b next) (c.get.ensures ∙ c.self.view_is) is))
    c.next.ensures.found
