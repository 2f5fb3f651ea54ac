use Rattle.std.proofs.Common.{rules, ◌∙◌}
use Rattle.doc_rules.proofs.ParserLaws.{is_rest_again}
use Rattle.doc_lines.proofs.Steps.{one_behind}
use Rattle.doc_people_search.proofs.PartSteps.{one_dropped}
use Rattle.doc_people_search.proofs.parts.behind.Goals as goal

pub loop-left-preserved : goal.loop-left-preserved
loop-left-preserved c = record {
  is_text = search rules;
  same = c.loop-left.invariant.same ∙ one_dropped _ _ _ _ c.loop-left-test.true c.in-Some.ensures.characters;
  end = is_rest_again _ _ _ (one_behind _ _ _ c.in-Some.ensures.characters) c.loop-left.invariant.end;
}
