use Rattle.std.proofs.Common.{◌∙◌, sym}
use Rattle.doc_inlines_marks.proofs.CodeTextLaws.{all_of_it, all_spaces, what_is_between}
use Rattle.doc_inlines_marks.proofs.code.code_text.Goals as goal

pub returns-in_default : goal.returns-in_default
returns-in_default c = all_of_it _ c.in_default.ensures

pub returns-then-is_all_spaces : goal.returns-then-is_all_spaces
returns-then-is_all_spaces c = all_spaces _ _ c.in-Some.ensures (sym c.is_all_spaces.ensures ∙ c.if-is_all_spaces.true)

pub returns : goal.returns
returns c = what_is_between _ _ c.in-Some.ensures (sym c.is_all_spaces.ensures ∙ c.if-is_all_spaces.false)
