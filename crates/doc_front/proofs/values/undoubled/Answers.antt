use Rattle.std.proofs.Common.{rules, ◌∙◌, ap, ℕ, List, Some, chars}
use Rattle.std.proofs.lemmas.Str.{chars-nil}
use Rattle.doc_front.proofs.ValueSteps.{made_first, made_on, made_not, made_all, fewer_left}
use Rattle.doc_front.proofs.values.undoubled.Goals as goal

pub characters-init : goal.characters-init
characters-init c = record {
  is_text = search rules;
  same = made_first _ _ (ap chars c.in_ok-out.ensures.bytes ∙ chars-nil);
}

pub characters-preserved : goal.characters-preserved
characters-preserved c = record {
  is_text = search rules;
  same = made_on _ _ _ _ _ _ _ c.characters.invariant.same c.in-Some.ensures.characters c.in-Some-behind_unit.ensures
      c.in_ok-push_char.ensures.ok;
}

pub returns-in_default-behind_unit : goal.returns-in_default-behind_unit
returns-in_default-behind_unit c = made_not _ _ _ _ _ c.characters.invariant.same c.in-Some.ensures.characters
    c.in_default-behind_unit.ensures

pub characters-smaller : goal.characters-smaller
characters-smaller c = fewer_left _ _ _ _ c.in-Some.ensures.characters c.in-Some-behind_unit.ensures

pub returns : goal.returns
returns c = ap (λ (b : List ℕ). Some (chars b)) c.new.ensures ∙ made_all _ _ _ c.characters.invariant.same c.in_default.ensures.characters
