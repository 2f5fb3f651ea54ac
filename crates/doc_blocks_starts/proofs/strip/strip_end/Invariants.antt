use Rattle.std.proofs.Common.{◌≡◌, ℕ, Bool, chars, length}
use denote.Text.{Utf8}
use denote.Shadow.{shadow}
use Rattle.doc_rules.specs.Characters.{strip_end}
use Rattle.doc_lines.specs.RestSteps.{IsTestOf}
use Rattle.doc_blocks_starts.proofs.strip.strip_end.Given as goal

abbrev pub invariant-characters : goal.invariant-characters
invariant-characters g l = shadow (Utf8 l.rest) × ((class : ℕ → Bool) → IsTestOf (goal.F-post g l.test) class
    → strip_end class (chars l.text) ≡ strip_end class (chars l.rest))

abbrev pub decreases-characters : goal.decreases-characters
decreases-characters g l = length (chars l.rest)
