use Rattle.std.proofs.Common.{chars, rules, sym, ◌∙◌}
use Rattle.doc_inlines_addresses.proofs.EndLaws.{leaves_again, letter_goes, letter_passed, letters_end, letters_are_all}
use Rattle.doc_inlines_addresses.proofs.ends.before_letters.Goals as goal

pub returns-then-not-is_ascii_alphabetic : goal.returns-then-not-is_ascii_alphabetic
returns-then-not-is_ascii_alphabetic c = record {
  leaves = c.letters.invariant.leaves;
  value = letters_end (chars c.args.text.now) (chars c.letters.rest.now) (chars c.in-Some.before.now) c.in-Some.c c.letters.invariant.same
      c.in-Some.ensures (sym c.is_ascii_alphabetic.ensures.value ∙ c.if-not-is_ascii_alphabetic.true);
}

pub letters-preserved : goal.letters-preserved
letters-preserved c =
    let letter = sym c.is_ascii_alphabetic.ensures.value ∙ c.if-not-is_ascii_alphabetic.false in
    record {
      is_text = search rules;
      leaves = leaves_again _ _ _ 0 c.letters.invariant.leaves (letter_goes _ _ c.in-Some.c c.in-Some.ensures letter);
      same = letter_passed (chars c.args.text.now) (chars c.letters.rest.now) (chars c.in-Some.before.now) c.in-Some.c c.letters.invariant.same
          c.in-Some.ensures letter;
    }

pub returns : goal.returns
returns c = record {
  leaves = c.letters.invariant.leaves;
  value = letters_are_all (chars c.args.text.now) (chars c.letters.rest.now) c.letters.invariant.same c.in_default.ensures;
}
