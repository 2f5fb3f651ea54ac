use Rattle.std.proofs.Common.{ap, string_bytes, ◌++◌, ◌∙◌}
use Rattle.std.proofs.lemmas.Result.{on_ok_weaker}
use Rattle.doc_people_search.proofs.PartSteps.{marked_is, unmarked_is}
use Rattle.doc_people_search.proofs.snippets.push_part.Goals as goal

pub returns-then-met : goal.returns-then-met
returns-then-met c =
    on_ok_weaker c.push_marked.result (λ is. is ∙ ap (λ w. string_bytes c.args.out.now ++ w)
    (marked_is c.args.terms.now c.args.part.now _ c.utf8.part c.in_ok-met.ensures c.if-met.true)) c.push_marked.ensures

pub returns : goal.returns
returns c =
    on_ok_weaker c.push_escaped.result (λ is. is ∙ ap (λ w. string_bytes c.args.out.now ++ w)
    (unmarked_is c.args.terms.now c.args.part.now _ c.utf8.part c.in_ok-met.ensures c.if-met.false)) c.push_escaped.ensures.ok
