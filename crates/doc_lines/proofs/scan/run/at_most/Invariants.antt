use Rattle.std.proofs.Common.{◌≡◌, ℕ, Bool, chars}
use denote.Text.{Utf8}
use denote.Shadow.{shadow}
use Rattle.doc_rules.specs.Parsers.{one, at_most}
use Rattle.doc_rules.specs.Rests.{IsRest}
use Rattle.doc_lines.specs.RestSteps.{IsTestOf}
use Rattle.doc_lines.proofs.scan.run.at_most.Given as goal

abbrev pub invariant-loop-left : goal.invariant-loop-left
invariant-loop-left g l = record {
  is_text : shadow (Utf8 l.rest);
  same : (class : ℕ → Bool) → IsTestOf (goal.F-post g l.test) class
      → at_most l.most (one class) (chars l.text) ≡ at_most l.left (one class) (chars l.rest);
  end : IsRest (chars l.rest) (chars l.text);
}

abbrev pub decreases-loop-left : goal.decreases-loop-left
decreases-loop-left g l = l.left
