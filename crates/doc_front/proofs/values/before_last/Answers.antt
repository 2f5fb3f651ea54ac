use Rattle.std.proofs.Common.{rules, ◌≡◌, ◌∙◌, None, arith}
use Rattle.std.proofs.lemmas.Bool.Decides.{nat_tests}
use Rattle.doc_lines.specs.RestSteps.{rest_of}
use Rattle.doc_front.proofs.ValueSteps.{before_none, before_mark, before_other}
use Rattle.doc_front.proofs.values.before_last.Goals as goal

pub returns-in_err-front : goal.returns-in_err-front
returns-in_err-front c =
    let none : rest_of c.from_residual.result ≡ None = search rules in
    none ∙ before_none _ _ c.in_err-front.ensures

pub returns-then-last-mark : goal.returns-then-last-mark
returns-then-last-mark c = before_mark _ _ _ _ c.in_ok-front.ensures (grind (arith, nat_tests, c.if-last-mark.true))

pub returns-else-last-mark : goal.returns-else-last-mark
returns-else-last-mark c = before_other _ _ _ _ c.in_ok-front.ensures (grind (arith, nat_tests, c.if-last-mark.false))
