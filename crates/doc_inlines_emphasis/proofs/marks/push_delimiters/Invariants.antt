use Rattle.std.proofs.Common.{replicate}
use Rattle.doc_inlines_emphasis.specs.RunSteps.{delimiter}
use Rattle.doc_inlines_emphasis.specs.Texts.{AddsEach}
use Rattle.doc_inlines_emphasis.proofs.marks.push_delimiters.Given as goal

abbrev pub invariant-loop : goal.invariant-loop
invariant-loop l = AddsEach l.initial.marks.items l.marks.items (replicate l.counter (delimiter l.fn.delimiter))
