use Rattle.doc_inlines.proofs.ClosingLaws.{first_place, finished}
use Rattle.std.proofs.Common.{refl}
use Rattle.doc_inlines.proofs.draft.Draft.finish.Goals as goal

pub wrap-requires : goal.wrap-requires
wrap-requires c = first_place _ _ _ _ c.requires.brackets refl refl

pub returns-clause-shown : goal.returns-clause-shown
returns-clause-shown c = finished _ _ _ _ _ c.requires.brackets c.in_ok-wrap.ensures.emphasis
