use Rattle.std.proofs.Common.{◌≡◌, ◌≤◌, ◌+◌, chars, length}
use denote.Text.{Utf8}
use denote.Shadow.{shadow}
use Rattle.doc_rules.specs.Labels.{label_text}
use Rattle.doc_rules.specs.Rests.{IsRest}
use Rattle.doc_inlines_marks.proofs.label.label_text.Given as goal

abbrev pub invariant-characters : goal.invariant-characters
invariant-characters l = record {
  is_text : shadow (Utf8 l.rest);
  same : label_text (chars l.text) ≡ label_text (chars l.rest);
  end : IsRest (chars l.rest) (chars l.text);
  counted : length (chars l.rest) + 1000 ≤ length (chars l.text) + l.left;
}

abbrev pub decreases-characters : goal.decreases-characters
decreases-characters l = l.left
