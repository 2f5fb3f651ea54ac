use Rattle.doc_inlines.proofs.RunLaws.{last_behind, last_of_none}
use Rattle.doc_inlines.proofs.runs.last_or_line.Goals as goal

pub returns-in-Some : goal.returns-in-Some
returns-in-Some c = last_behind 10 _ _ _ c.in-Some.ensures

pub returns-in-None : goal.returns-in-None
returns-in-None c = last_of_none 10 _ c.in-None.ensures
