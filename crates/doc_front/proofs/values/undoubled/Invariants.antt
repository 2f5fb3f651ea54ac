use Rattle.std.proofs.Common.{◌≡◌, false, chars, length, string_bytes}
use denote.Text.{Utf8}
use denote.Shadow.{shadow}
use Rattle.doc_front.specs.Titles.{single_quoted}
use Rattle.doc_front.proofs.ValueSteps.{behind_made}
use Rattle.doc_front.proofs.values.undoubled.Given as goal

abbrev pub invariant-characters : goal.invariant-characters
invariant-characters l = record {
  is_text : shadow (Utf8 l.rest);
  same : behind_made (chars (string_bytes l.out)) (single_quoted false (chars l.rest)) ≡ single_quoted false (chars l.fn.text);
}

abbrev pub decreases-characters : goal.decreases-characters
decreases-characters l = length (chars l.rest)
