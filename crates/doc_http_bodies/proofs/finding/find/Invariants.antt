use Rattle.doc_http_bodies.specs.Places.{IsSearched}
use Rattle.doc_http_bodies.proofs.finding.find.Given as goal

abbrev pub invariant-places : goal.invariant-places
invariant-places l = IsSearched l.needle l.at l.text
