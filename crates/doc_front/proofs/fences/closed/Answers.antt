use Rattle.std.proofs.Common.{rules, ◌≡◌, true, false, ◌∙◌, sym}
use Rattle.doc_front.proofs.LineSteps.{closed_here, closed_on, closed_never}
use Rattle.doc_front.proofs.fences.closed.Goals as goal

pub returns-then-is_fence : goal.returns-then-is_fence
returns-then-is_fence c =
    let passed : c.is_fence.result ≡ true = search rules in
    closed_here _ _ _ _ c.lines.invariant.same c.in-Some.ensures.line (sym passed ∙ c.is_fence.ensures)

pub lines-preserved : goal.lines-preserved
lines-preserved c =
    let failed : c.is_fence.result ≡ false = search rules in
    record {
      is_text = search rules;
      same = closed_on _ _ _ _ c.lines.invariant.same c.in-Some.ensures.line (sym failed ∙ c.is_fence.ensures);
    }

pub returns : goal.returns
returns c = closed_never _ _ c.lines.invariant.same c.in_default.ensures.line
