use Rattle.std.proofs.Common.{chars, length}
use denote.Text.{Utf8}
use denote.Shadow.{shadow}
use Rattle.doc_inlines_marks.proofs.SearchSteps.{Sought}
use Rattle.doc_inlines_marks.proofs.runs.span_end.Given as goal

abbrev pub invariant-runs : goal.invariant-runs
invariant-runs l = record {
  is_text : shadow (Utf8 l.rest);
  sought : Sought l.wanted (chars l.text) (chars l.rest);
}

abbrev pub decreases-runs : goal.decreases-runs
decreases-runs l = length (chars l.rest)
