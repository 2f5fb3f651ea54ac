use Rattle.std.proofs.Common.{◌≡◌, chars, drop}
use denote.Text.{Utf8}
use denote.Shadow.{shadow}
use Rattle.doc_rules.specs.Rests.{IsRest}
use Rattle.doc_people_search.proofs.parts.behind.Given as goal

abbrev pub invariant-loop-left : goal.invariant-loop-left
invariant-loop-left l = record {
  is_text : shadow (Utf8 l.rest);
  same : drop l.count (chars l.text) ≡ drop l.left (chars l.rest);
  end : IsRest (chars l.rest) (chars l.text);
}

abbrev pub decreases-loop-left : goal.decreases-loop-left
decreases-loop-left l = l.left
