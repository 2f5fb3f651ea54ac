use Rattle.std.proofs.Common.{◌≡◌, not, rules, Some, chars, subst, sym, IfNone}
use Rattle.std.specs.Prelude.{◌==◌}
use Rattle.doc_rules.specs.CodeSpans.{spaced}
use Rattle.doc_rules.specs.Parsers.{many}
use Rattle.doc_html.proofs.CodeSteps.{one_line, last_line}
use Rattle.doc_html.proofs.code.first_line.Goals as goal

pub returns-in_err-after-clause-none : goal.returns-in_err-after-clause-none
returns-in_err-after-clause-none c =
    let taken : Some (chars c.many-behind.result.now) ≡ many (λ d. not (d == 10)) (chars c.args.text.now) = c.many-behind.ensures.value
    (λ d. not (d == 10)) (search rules) in
    let all : spaced (chars c.args.text.now) ≡ chars c.args.text.now = last_line _ _ _ c.many-behind.ensures.end.split taken
    c.in_err-after.ensures.characters in
    subst (λ r. IfNone r (spaced (chars c.args.text.now) ≡ chars c.args.text.now)) (sym c.from_residual.ensures) all

pub returns-clause-line : goal.returns-clause-line
returns-clause-line c =
    let taken : Some (chars c.many-behind.result.now) ≡ many (λ d. not (d == 10)) (chars c.args.text.now) = c.many-behind.ensures.value
    (λ d. not (d == 10)) (search rules) in
    one_line _ _ _ _ _ c.front.ensures.joins taken c.in_ok-after.ensures.characters
