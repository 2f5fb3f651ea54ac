use Rattle.std.proofs.Common.{rules, refl, ◌∙◌, sym, chars, arith}
use Rattle.std.specs.Prelude.{codes}
use Rattle.doc_rules.specs.Characters.{none_of}
use Rattle.doc_rules.proofs.ParserLaws.{is_all, is_rest_again}
use Rattle.doc_refs_parts.proofs.Escapes.{run_ends, run_goes_on}
use Rattle.doc_inlines_marks.proofs.LabelSteps.{too_long}
use Rattle.doc_inlines_marks.proofs.label.label_text.Goals as goal

pub characters-init : goal.characters-init
characters-init c = record { is_text = search rules; same = refl; end = is_all _; counted = omega arith }

pub characters-preserved : goal.characters-preserved
characters-preserved c =
    let i = c.characters.invariant in
    record {
      is_text = search rules;
      same = i.same ∙ run_goes_on (none_of (codes "[]")) _ _ (c.in-Some.ensures.value (none_of (codes "[]")) (search rules));
      end = is_rest_again _ _ _ c.in-Some.ensures.end i.end;
      counted = omega (arith, i.counted, c.in-Some.ensures.shorter, c.characters-test.true);
    }

pub returns-in_default : goal.returns-in_default
returns-in_default c = (
  run_ends (none_of (codes "[]")) _ (c.in_default.ensures.value (none_of (codes "[]")) (search rules)) ∙ sym c.characters.invariant.same,
  c.characters.invariant.end,
)

pub returns : goal.returns
returns c = too_long _ (chars c.characters.rest.now) c.characters.invariant.same
    (omega (arith, c.characters.invariant.counted, c.characters-test.false))
