use Rattle.std.proofs.Common.{◌≤◌, length}
use Rattle.doc_inlines_emphasis.specs.Openers.{MissedFrom}
use Rattle.doc_inlines_emphasis.specs.NumberSteps.{run_numbered}
use Rattle.doc_inlines_emphasis.specs.RunSteps.{run_shown, all_placed}
use Rattle.doc_inlines_emphasis.proofs.openers.nearest.Given as goal

abbrev pub invariant-loop-place : goal.invariant-loop-place
invariant-loop-place l = record {
  within : l.place ≤ length l.numbers;
  missed : MissedFrom (run_numbered (all_placed l.runs)) l.numbers (run_shown l.closer) l.place;
}

abbrev pub decreases-loop-place : goal.decreases-loop-place
decreases-loop-place l = l.place
