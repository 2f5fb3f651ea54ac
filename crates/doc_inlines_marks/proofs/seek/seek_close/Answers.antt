use Rattle.doc_rules.proofs.GrammarLaws.{is_leaves}
use Rattle.doc_inlines_marks.proofs.Sizes.{size_of}
use Rattle.doc_inlines_marks.proofs.EndLaws.{seek_less, seek_found, seek_none}
use Rattle.doc_inlines_marks.proofs.seek.seek_close.Goals as goal

pub returns-then-text-missing : goal.returns-then-text-missing
returns-then-text-missing c = seek_less _ _ _ _ (size_of _ c.utf8.text) c.if-text-missing.true

pub returns-in-Some : goal.returns-in-Some
returns-in-Some c = seek_found _ _ _ _ (is_leaves 62) c.in-Some.ensures

pub returns : goal.returns
returns c = seek_none _ _ _ _ (size_of _ c.utf8.text) c.in_default.ensures
