use Rattle.std.proofs.Common.{◌≡◌, drop}
use Rattle.doc_server.proofs.ReplaySteps.{AreLeft}
use Rattle.doc_server.proofs.replay.write_outcomes.Given as goal

abbrev pub invariant-loop-outcome : goal.invariant-loop-outcome
invariant-loop-outcome g l = record {
  sent : AreLeft (g.O.Output.written l.fn.output) (g.O.Output.written l.output) l.outcomes (drop l.outcome-index l.outcomes);
  writes : g.O.Output.failed l.output ≡ g.O.Output.failed l.fn.output;
}
