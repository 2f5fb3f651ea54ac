use Rattle.std.proofs.Common.{◌≡◌, map}
use Rattle.doc_people.specs.declared.term.Term.TheVariants.{Exact}
use Rattle.doc_people_search.proofs.terms.exact_terms.Given as goal

abbrev pub invariant-loop-word : goal.invariant-loop-word
invariant-loop-word l = l.terms.items ≡ map Exact l.yielded
