use Rattle.std.proofs.Common.{◌∙◌, sym, ap, Some}
use Rattle.doc_resolve.proofs.ReferenceSteps.{behind-none, behind-found}
use Rattle.doc_resolve.proofs.reference.cut.Goals as goal

pub returns-in-Some-clause-behind : goal.returns-in-Some-clause-behind
returns-in-Some-clause-behind c =
    let parts = c.in-Some.ensures.byte c.requires (λ w o f. f) in
    ap Some parts.1 ∙ sym (behind-found c.args.mark c.args.text.now parts.2)

pub returns-in-None-clause-behind : goal.returns-in-None-clause-behind
returns-in-None-clause-behind c =
    sym (behind-none c.args.mark c.args.text.now (c.in-None.ensures.byte c.requires (λ w o f. f)))
