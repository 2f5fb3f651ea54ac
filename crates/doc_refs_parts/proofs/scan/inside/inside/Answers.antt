use Rattle.doc_refs_parts.proofs.Ends.{inside_is, inside_of_nothing}
use Rattle.doc_refs_parts.proofs.scan.inside.inside.Goals as goal

pub returns-in-Some : goal.returns-in-Some
returns-in-Some c = inside_is _ _ _ _ c.in-Some.ensures.characters c.without_last.ensures

pub returns-in-None : goal.returns-in-None
returns-in-None c = inside_of_nothing _ c.in-None.ensures.characters
