use Rattle.std.proofs.Common.{refl}
use Rattle.doc_inlines.proofs.GapLaws.{two_spaces}
use Rattle.doc_inlines.proofs.gaps.begins_with_space.Goals as goal

pub returns : goal.returns
returns c = two_spaces c.in-Some.c _ _ _ c.in-Some.ensures.characters refl
