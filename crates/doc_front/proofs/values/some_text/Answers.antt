use Rattle.doc_front.proofs.ValueSteps.{some_is, none_is}
use Rattle.doc_front.proofs.values.some_text.Goals as goal

pub returns-in-Some : goal.returns-in-Some
returns-in-Some c = some_is _ _ _ c.in-Some.ensures.characters

pub returns-in-None : goal.returns-in-None
returns-in-None c = none_is _ c.in-None.ensures.characters
