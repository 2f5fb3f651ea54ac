use Rattle.std.proofs.Common.{◌==◌, chars, ap, sym, ◌∙◌}
use Rattle.doc_inlines_addresses.specs.EndSteps.{Leaves}
use Rattle.doc_inlines_addresses.proofs.EndLaws.{all_left, one_goes, leaves_again, no_letter, letters_alone, letters_behind_other, reference_goes}
use Rattle.doc_inlines_addresses.proofs.ends.before_reference.Goals as goal

pub returns-then-not-is_ascii_alphabetic : goal.returns-then-not-is_ascii_alphabetic
returns-then-not-is_ascii_alphabetic c = record {
  leaves = all_left (chars c.args.text.now);
  value = no_letter _ _ c.in-Some.last c.in-Some.ensures (sym c.is_ascii_alphabetic.ensures.value ∙ c.if-not-is_ascii_alphabetic.true);
}

pub returns-in_default-last_char : goal.returns-in_default-last_char
returns-in_default-last_char c = record {
  leaves = all_left (chars c.args.text.now);
  value = letters_alone _ _ (chars c.before_letters-letters.result.now) c.in-Some.last c.in-Some.ensures
      (sym c.is_ascii_alphabetic.ensures.value ∙ c.if-not-is_ascii_alphabetic.false) c.before_letters-letters.ensures.value
      c.in_default-last_char.ensures;
}

pub returns-then-c-eq38 : goal.returns-then-c-eq38
returns-then-c-eq38 c =
    let l : Leaves (chars c.args.text.now) (chars c.in-Some-last_char.before.now) 0 =
    leaves_again _ _ _ 0 c.before_letters-letters.ensures.leaves
    (one_goes _ _ c.in-Some-last_char.c c.in-Some-last_char.ensures (ap (λ d. d == 40) c.if-c-eq38.true) (ap (λ d. d == 41) c.if-c-eq38.true)) in
    record {
      leaves = l;
      value = reference_goes _ _ (chars c.before_letters-letters.result.now) _ c.in-Some.last c.in-Some-last_char.c c.in-Some.ensures
          (sym c.is_ascii_alphabetic.ensures.value ∙ c.if-not-is_ascii_alphabetic.false) c.before_letters-letters.ensures.value
          c.in-Some-last_char.ensures c.if-c-eq38.true l.front;
    }

pub returns-else-c-eq38 : goal.returns-else-c-eq38
returns-else-c-eq38 c = record {
  leaves = all_left (chars c.args.text.now);
  value = letters_behind_other _ _ (chars c.before_letters-letters.result.now) _ c.in-Some.last c.in-Some-last_char.c c.in-Some.ensures
      (sym c.is_ascii_alphabetic.ensures.value ∙ c.if-not-is_ascii_alphabetic.false) c.before_letters-letters.ensures.value
      c.in-Some-last_char.ensures c.if-c-eq38.false;
}
