use Rattle.std.proofs.Common.{◌≡◌, ℕ, List}
use Rattle.std.specs.Str.Iter.{split_steps}
use Rattle.std.specs.Str.Pattern.{FindsChar}
use Rattle.std.proofs.lemmas.Iterator.{YieldsList}
use Rattle.doc_server.specs.ExampleSteps.{place_of, IsAt}
use Rattle.doc_server.proofs.examples.compare_all.Given as goal

abbrev pub invariant-loop-line : goal.invariant-loop-line
invariant-loop-line g l =
    (rest : List (List ℕ)) × YieldsList (split_steps FindsChar (λ a b. b ≡ a)) (λ line. line.now) l.line-iterator rest
    × IsAt l.text (g.O.Output.written l.fn.output) (place_of l.reader) l.count (g.O.Output.written l.output) rest
    × (g.O.Output.failed l.output ≡ g.O.Output.failed l.fn.output)
