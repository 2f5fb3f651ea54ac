use Rattle.std.proofs.Common.{◌≡◌, length}
use Rattle.doc_inlines_emphasis.specs.PassSteps.{Stacked}
use Rattle.doc_inlines_emphasis.specs.RunSteps.{all_placed}
use Rattle.doc_inlines_emphasis.specs.Steps.{WalksOn}
use Rattle.doc_inlines_emphasis.proofs.pass.pass.Given as goal

abbrev pub invariant-loop-number : goal.invariant-loop-number
invariant-loop-number l = record {
  walks : WalksOn l.initial.marks.items l.marks.items l.initial.runs l.runs l.openers.numbers.items l.number;
  stacked : Stacked (all_placed l.runs) l.openers.numbers.items l.openers.bounds l.number;
  size : length l.runs ≡ length l.initial.runs;
}
