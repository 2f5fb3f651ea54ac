use Rattle.std.proofs.Common.{sym, ◌∙◌}
use Rattle.doc_inlines.proofs.EnclosedLaws.{uncut_piece, cut_piece}
use Rattle.doc_inlines.proofs.enclosed.behind_piece.Goals as goal

pub returns-then-is_uncut : goal.returns-then-is_uncut
returns-then-is_uncut c = uncut_piece _ _ _ _ c.in_ok-c.ensures.characters (sym c.is_uncut.ensures
    ∙ c.if-is_uncut.true) c.behind_uncut.ensures.value c.behind_uncut.ensures.end

pub returns-else-is_uncut : goal.returns-else-is_uncut
returns-else-is_uncut c = cut_piece _ _ _ c.in_ok-c.ensures.characters
