use Rattle.doc_refs_parts.proofs.Ends.{all_but_last, nothing_but_last}
use Rattle.doc_refs_parts.proofs.scan.inside.without_last.Goals as goal

pub returns-in-Some : goal.returns-in-Some
returns-in-Some c = all_but_last _ _ _ c.in-Some.ensures

pub returns-in-None : goal.returns-in-None
returns-in-None c = nothing_but_last _ c.in-None.ensures
