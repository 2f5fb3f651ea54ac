use Rattle.std.proofs.Common.{rules, ap, ◌∙◌, sym}
use Rattle.doc_lines.specs.RestSteps.{rest_of}
use Rattle.doc_lines.proofs.Steps.{through_here, through_further, through_ends}
use Rattle.doc_lines.proofs.scan.word.through_first.Goals as goal

pub returns-in-Some : goal.returns-in-Some
returns-in-Some g c = λ parser d. through_here _ _ _ (d _ _ c.in-Some.ensures) ∙ sym (c.places.invariant.same parser d)

pub returns-in_err-behind : goal.returns-in_err-behind
returns-in_err-behind g c = λ parser d.
    ap rest_of c.from_residual.ensures
    ∙ through_ends parser _ c.in_err-behind.ensures.characters (d _ _ c.in_default.ensures)
    ∙ sym (c.places.invariant.same parser d)

pub places-preserved : goal.places-preserved
places-preserved g c = record {
  is_text = search rules;
  same = λ parser d. c.places.invariant.same parser d ∙ through_further parser _ _ _ c.in_ok-behind.ensures.characters
      (d _ _ c.in_default.ensures);
}
