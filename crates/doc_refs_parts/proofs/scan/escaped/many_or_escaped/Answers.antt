use Rattle.std.proofs.Common.{rules, refl, ◌∙◌, sym}
use Rattle.doc_rules.proofs.ParserLaws.{is_all, is_rest_again}
use Rattle.doc_refs_parts.proofs.Escapes.{run_ends, run_goes_on}
use Rattle.doc_refs_parts.proofs.scan.escaped.many_or_escaped.Goals as goal

pub characters-init : goal.characters-init
characters-init g c = record { is_text = search rules; same = λ class d. refl; end = is_all _ }

pub returns : goal.returns
returns g c = record {
  value = λ class d. run_ends class _ (c.in_default.ensures.value class d) ∙ sym (c.characters.invariant.same class d);
  end = c.characters.invariant.end;
}

pub characters-preserved : goal.characters-preserved
characters-preserved g c = record {
  is_text = search rules;
  same = λ class d. c.characters.invariant.same class d ∙ run_goes_on class _ _ (c.in-Some.ensures.value class d);
  end = is_rest_again _ _ _ c.in-Some.ensures.end c.characters.invariant.end;
}
