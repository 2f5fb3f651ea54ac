use Rattle.std.proofs.Common.{◌≡◌, false, chars, length}
use denote.Text.{Utf8}
use denote.Shadow.{shadow}
use Rattle.doc_rules.specs.Rests.{IsRest}
use Rattle.doc_tables.specs.CellSteps.{end_of_part}
use Rattle.doc_tables.proofs.parts.end_of_part.Given as goal

abbrev pub invariant-characters : goal.invariant-characters
invariant-characters l = record {
  is_text : shadow (Utf8 l.rest);
  same : end_of_part false (chars l.text) ≡ end_of_part l.escaped (chars l.rest);
  end : IsRest (chars l.rest) (chars l.text);
}

abbrev pub decreases-characters : goal.decreases-characters
decreases-characters l = length (chars l.rest)
