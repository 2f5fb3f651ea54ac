use Rattle.std.proofs.Common.{◌≡◌, ℕ, Bool, chars, length}
use denote.Text.{Utf8}
use denote.Shadow.{shadow}
use Rattle.doc_rules.specs.Destinations.{many_or_escaped}
use Rattle.doc_rules.specs.Rests.{IsRest}
use Rattle.doc_lines.specs.RestSteps.{IsTestOf}
use Rattle.doc_refs_parts.proofs.scan.escaped.many_or_escaped.Given as goal

abbrev pub invariant-characters : goal.invariant-characters
invariant-characters g l = record {
  is_text : shadow (Utf8 l.rest);
  same : (class : ℕ → Bool) → IsTestOf (goal.F-post g l.test) class
      → many_or_escaped class (chars l.text) ≡ many_or_escaped class (chars l.rest);
  end : IsRest (chars l.rest) (chars l.text);
}

abbrev pub decreases-characters : goal.decreases-characters
decreases-characters g l = length (chars l.rest)
