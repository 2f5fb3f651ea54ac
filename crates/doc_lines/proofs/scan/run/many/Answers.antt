use Rattle.std.proofs.Common.{rules, ◌≡◌, true, ◌∙◌, sym}
use Rattle.doc_lines.proofs.Steps.{many_goes_on, one_further}
use Rattle.doc_lines.proofs.scan.run.many.Goals as goal

pub loop-c-preserved : goal.loop-c-preserved
loop-c-preserved g c =
    let passed : c.test.result ≡ true = search rules in
    record {
      is_text = search rules;
      same = λ class d. c.loop-c.invariant.same class d ∙ many_goes_on class c.in-Some.c _ _ c.in-Some.ensures.characters
          (sym (d _ _ c.test.ensures) ∙ passed);
      end = one_further c.in-Some.c _ _ _ c.in-Some.ensures.characters c.loop-c.invariant.end;
    }
