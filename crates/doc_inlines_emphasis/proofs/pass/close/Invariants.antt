use Rattle.std.proofs.Common.{◌≡◌, length, true}
use Rattle.doc_inlines_emphasis.specs.NumberSteps.{run_numbered}
use Rattle.doc_inlines_emphasis.specs.PassSteps.{Stacked}
use Rattle.doc_inlines_emphasis.specs.RunSteps.{all_placed}
use Rattle.doc_inlines_emphasis.specs.Steps.{StandAt, GoesOn}
use Rattle.doc_inlines_emphasis.proofs.pass.close.Given as goal

abbrev pub invariant-loop-runs : goal.invariant-loop-runs
invariant-loop-runs l = record {
  stands : StandAt l.marks.items l.runs l.openers.numbers.items l.number;
  stacked : Stacked (all_placed l.runs) l.openers.numbers.items l.openers.bounds l.number;
  size : length l.runs ≡ length l.initial.runs;
  closes : (run_numbered (all_placed l.runs) l.number).closes ≡ true;
  goes : GoesOn l.initial.marks.items l.marks.items l.initial.runs l.runs l.initial.openers.numbers.items l.openers.numbers.items l.number;
}

abbrev pub decreases-loop-runs : goal.decreases-loop-runs
decreases-loop-runs l = (run_numbered (all_placed l.runs) l.number).left
