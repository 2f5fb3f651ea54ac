use Rattle.std.proofs.Common.{length, chars}
use denote.Text.{Utf8}
use denote.Shadow.{shadow}
use Rattle.doc_inlines.specs.PlainSteps.{StandsInFront}
use Rattle.doc_inlines.proofs.plain.without_spaces.Given as goal

abbrev pub invariant-spaces : goal.invariant-spaces
invariant-spaces l = record {
  is_text : shadow (Utf8 l.words);
  stands : StandsInFront (chars l.words) (chars l.text);
}

abbrev pub decreases-spaces : goal.decreases-spaces
decreases-spaces l = length (chars l.words)
