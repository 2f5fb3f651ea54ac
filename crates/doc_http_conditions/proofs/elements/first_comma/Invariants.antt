use Rattle.std.proofs.Common.{◌≡◌, take, drop, false}
use Rattle.doc_page_parts.proofs.LineSteps.{onto_front}
use Rattle.doc_http_conditions.specs.Lists.{elements}
use Rattle.doc_http_conditions.proofs.elements.first_comma.Given as goal

abbrev pub invariant-loop-i : goal.invariant-loop-i
invariant-loop-i l = elements false l.text ≡ onto_front (take l.i l.text) (elements l.quoted (drop l.i l.text))
