use Rattle.doc_front.proofs.LineSteps.{underlined_first, underlined_none}
use Rattle.doc_front.proofs.headings.is_underlined.Goals as goal

pub returns-in-Some : goal.returns-in-Some
returns-in-Some c = underlined_first _ _ _ _ c.in-Some.ensures.line c.is_underline.ensures

pub returns-in-None : goal.returns-in-None
returns-in-None c = underlined_none _ c.in-None.ensures.line
