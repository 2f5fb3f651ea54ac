use Rattle.std.proofs.Common.{◌≡◌, ℕ, Bool, chars, length}
use denote.Text.{Utf8}
use denote.Shadow.{shadow}
use Rattle.doc_rules.specs.Parsers.{many}
use Rattle.doc_rules.specs.Rests.{IsRest}
use Rattle.doc_lines.specs.RestSteps.{IsTestOf}
use Rattle.doc_lines.proofs.scan.run.many.Given as goal

abbrev pub invariant-loop-c : goal.invariant-loop-c
invariant-loop-c g l = record {
  is_text : shadow (Utf8 l.rest);
  same : (class : ℕ → Bool) → IsTestOf (goal.F-post g l.test) class → many class (chars l.text) ≡ many class (chars l.rest);
  end : IsRest (chars l.rest) (chars l.text);
}

abbrev pub decreases-loop-c : goal.decreases-loop-c
decreases-loop-c g l = length (chars l.rest)
