use Rattle.std.proofs.Common.{rules, ◌≡◌, true, false, ◌∙◌, sym}
use Rattle.doc_front.proofs.LineSteps.{heading_here, heading_on, heading_never}
use Rattle.doc_front.proofs.headings.has_heading.Goals as goal

pub returns-then-not-is_blank : goal.returns-then-not-is_blank
returns-then-not-is_blank c =
    let failed : c.is_blank.result ≡ false = search rules in
    heading_here _ _ _ _ _ c.lines.invariant.same c.in-Some.ensures.line (sym failed ∙ c.is_blank.ensures) c.begins_with_heading.ensures

pub lines-preserved : goal.lines-preserved
lines-preserved c =
    let passed : c.is_blank.result ≡ true = search rules in
    record {
      is_text = search rules;
      same = heading_on _ _ _ _ c.lines.invariant.same c.in-Some.ensures.line (sym passed ∙ c.is_blank.ensures);
    }

pub returns : goal.returns
returns c = heading_never _ _ c.lines.invariant.same c.in_default.ensures.line
