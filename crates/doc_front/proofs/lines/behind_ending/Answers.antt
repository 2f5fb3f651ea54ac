use Rattle.doc_blocks.proofs.ContentLaws.{behind_first, behind_none, behind_both, behind_second}
use Rattle.doc_front.proofs.lines.behind_ending.Goals as goal

pub returns-in-Some : goal.returns-in-Some
returns-in-Some c = behind_first _ _ c.in-Some.ensures

pub returns-in_default-is : goal.returns-in_default-is
returns-in_default-is c = behind_none _ c.in_default.ensures c.in_default-is.ensures

pub returns-in-Some-is-2 : goal.returns-in-Some-is-2
returns-in-Some-is-2 c = behind_both _ _ _ c.in_default.ensures c.in-Some-is.ensures c.in-Some-is-2.ensures

pub returns-in-None : goal.returns-in-None
returns-in-None c = behind_second _ _ c.in_default.ensures c.in-Some-is.ensures c.in-None.ensures
