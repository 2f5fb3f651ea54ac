use Rattle.std.proofs.Common.{rules, ◌≡◌, true, false, ◌∙◌, sym}
use Rattle.doc_front.proofs.LineSteps.{title_ends, title_here, title_on_next, title_never}
use Rattle.doc_front.proofs.titles.title_in.Goals as goal

pub returns-then-is_fence : goal.returns-then-is_fence
returns-then-is_fence c =
    let passed : c.is_fence.result ≡ true = search rules in
    title_ends _ _ _ _ c.lines.invariant.same c.in-Some.ensures.line (sym passed ∙ c.is_fence.ensures)

pub returns-in-Some-title_on : goal.returns-in-Some-title_on
returns-in-Some-title_on c =
    let failed : c.is_fence.result ≡ false = search rules in
    title_here _ _ _ _ _ c.lines.invariant.same c.in-Some.ensures.line (sym failed ∙ c.is_fence.ensures) c.in-Some-title_on.ensures

pub lines-preserved : goal.lines-preserved
lines-preserved c =
    let failed : c.is_fence.result ≡ false = search rules in
    record {
      is_text = search rules;
      same = title_on_next _ _ _ _ c.lines.invariant.same c.in-Some.ensures.line (sym failed ∙ c.is_fence.ensures)
          c.in_default-title_on.ensures;
    }

pub returns : goal.returns
returns c = title_never _ _ c.lines.invariant.same c.in_default.ensures.line
