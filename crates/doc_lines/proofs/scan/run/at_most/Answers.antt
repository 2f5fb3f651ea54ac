use Rattle.std.proofs.Common.{rules, refl, ◌∙◌, sym}
use Rattle.doc_rules.proofs.ParserLaws.{is_all, is_rest_again}
use Rattle.doc_lines.proofs.Steps.{at_most_ends, at_most_goes_on}
use Rattle.doc_lines.proofs.scan.run.at_most.Goals as goal

pub loop-left-init : goal.loop-left-init
loop-left-init g c = record { is_text = search rules; same = λ class d. refl; end = is_all _ }

pub returns-in_default : goal.returns-in_default
returns-in_default g c = record {
  value = λ class d. at_most_ends _ _ _ (c.in_default.ensures.value class d) ∙ sym (c.loop-left.invariant.same class d);
  end = c.loop-left.invariant.end;
}

pub loop-left-preserved : goal.loop-left-preserved
loop-left-preserved g c = record {
  is_text = search rules;
  same = λ class d. c.loop-left.invariant.same class d ∙ at_most_goes_on _ _ _ _ c.loop-left-test.true (c.in-Some.ensures.value class d);
  end = is_rest_again _ _ _ c.in-Some.ensures.end c.loop-left.invariant.end;
}
