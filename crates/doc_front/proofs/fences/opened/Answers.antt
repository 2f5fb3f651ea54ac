use Rattle.std.proofs.Common.{rules, ◌≡◌, true, false, ◌∙◌, sym, None}
use Rattle.doc_front.specs.FrontSteps.{lines_in}
use Rattle.doc_front.proofs.LineSteps.{opened_first, opened_not, opened_none}
use Rattle.doc_front.proofs.fences.opened.Goals as goal

pub returns-in_err-line : goal.returns-in_err-line
returns-in_err-line c =
    let none : lines_in c.from_residual.result ≡ None = search rules in
    none ∙ opened_none _ c.in_err-line.ensures.line

pub returns-then-not-is_fence : goal.returns-then-not-is_fence
returns-then-not-is_fence c =
    let failed : c.is_fence.result ≡ false = search rules in
    opened_not _ _ _ c.in_ok-line.ensures.line (sym failed ∙ c.is_fence.ensures)

pub returns-then-not-is_shown : goal.returns-then-not-is_shown
returns-then-not-is_shown c =
    let passed : c.is_fence.result ≡ true = search rules in
    let failed : c.is_shown.result ≡ false = search rules in
    sym (opened_first _ _ _ true false c.in_ok-line.ensures.line (sym passed ∙ c.is_fence.ensures) (sym failed ∙ c.is_shown.ensures))

pub returns : goal.returns
returns c =
    let passed : c.is_fence.result ≡ true = search rules in
    let shown : c.is_shown.result ≡ true = search rules in
    sym (opened_first _ _ _ true true c.in_ok-line.ensures.line (sym passed ∙ c.is_fence.ensures) (sym shown ∙ c.is_shown.ensures))
