use Rattle.std.proofs.Common.{◌∙◌, sym, ap, Some, lit<}
use Rattle.std.specs.Option.{option_copied}
use Rattle.doc_http_targets.proofs.TargetSteps.{after_slash-none, after_slash-found}
use Rattle.doc_http_targets.proofs.origin_form.after_slash.Goals as goal

pub returns-in_err-rest : goal.returns-in_err-rest
returns-in_err-rest c =
    let none = after_slash-none c.args.text.now (c.in_err-rest.ensures.byte (lit< tt) (λ w o f. f)) in
    ap option_copied c.from_residual.ensures ∙ sym none

pub returns : goal.returns
returns c =
    let parts = c.in_ok-rest.ensures.byte (lit< tt) (λ w o f. f) in
    ap Some parts.1 ∙ sym (after_slash-found c.args.text.now parts.2)
