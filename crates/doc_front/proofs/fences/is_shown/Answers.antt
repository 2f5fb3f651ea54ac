use Rattle.doc_front.proofs.LineSteps.{shown_first, shown_none}
use Rattle.doc_front.proofs.fences.is_shown.Goals as goal

pub returns-in-Some : goal.returns-in-Some
returns-in-Some c = shown_first _ _ _ _ c.in-Some.ensures.line c.shows_front.ensures

pub returns-in-None : goal.returns-in-None
returns-in-None c = shown_none _ c.in-None.ensures.line
