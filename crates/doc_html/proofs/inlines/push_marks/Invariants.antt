use Rattle.std.proofs.Common.{◌≡◌, ◌≤◌, take}
use Rattle.doc_rules.specs.Html.{inlines_html}
use Rattle.doc_inlines_marks.specs.Views.{inlines_shown}
use Rattle.doc_html.specs.ProgressSteps.{Writes}
use Rattle.doc_html.specs.InlineSteps.{images_along}
use Rattle.doc_html.proofs.inlines.push_marks.Given as goal

abbrev pub invariant-loop-mark : goal.invariant-loop-mark
invariant-loop-mark g l = record {
  few : l.images ≤ l.mark-index;
  count : l.images ≡ images_along 0 (inlines_shown (take l.mark-index l.marks));
  written : Writes g.W.Writer.holds l.fn.writer l.writer (inlines_html 0 (inlines_shown (take l.mark-index l.marks)));
}
