use Rattle.std.proofs.Common.{◌∙◌, sym, subst, chars}
use Rattle.doc_inlines_marks.specs.CodeSteps.{IsBetween}
use Rattle.doc_inlines_marks.proofs.CodeTextLaws.{nothing_inside, one_alone, other_ends}
use Rattle.doc_inlines_marks.proofs.code.between_spaces.Goals as goal

pub returns-in_err-first : goal.returns-in_err-first
returns-in_err-first c = subst (IsBetween (chars c.args.text.now)) (sym c.from_residual.ensures)
    (nothing_inside _ c.in_err-first.ensures.characters)

pub returns-in_err-inner : goal.returns-in_err-inner
returns-in_err-inner c = subst (IsBetween (chars c.args.text.now)) (sym c.from_residual-in_err-inner.ensures)
    (one_alone _ _ _ c.in_ok-first.ensures.characters c.in_err-inner.ensures)

pub returns-else-are_spaces : goal.returns-else-are_spaces
returns-else-are_spaces c = other_ends _ _ _ _ _ c.in_ok-first.ensures.characters c.in_ok-inner.ensures (sym c.are_spaces.ensures
    ∙ c.if-are_spaces.false)
