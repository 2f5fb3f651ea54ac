use Rattle.std.proofs.Common.{◌≡◌, chars, length}
use denote.Text.{Utf8}
use denote.Shadow.{shadow}
use Rattle.doc_rules.specs.Lines.{lines_of}
use Rattle.doc_front.specs.Front.{has_heading}
use Rattle.doc_front.proofs.headings.has_heading.Given as goal

abbrev pub invariant-lines : goal.invariant-lines
invariant-lines l = record {
  is_text : shadow (Utf8 l.rest);
  same : has_heading (lines_of (chars l.fn.text)) ≡ has_heading (lines_of (chars l.rest));
}

abbrev pub decreases-lines : goal.decreases-lines
decreases-lines l = length (chars l.rest)
