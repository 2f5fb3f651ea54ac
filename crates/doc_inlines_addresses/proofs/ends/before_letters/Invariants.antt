use Rattle.std.proofs.Common.{◌≡◌, reverse, length, chars}
use denote.Text.{Utf8}
use denote.Shadow.{shadow}
use Rattle.std.specs.Char.{is_ascii_alphabetic}
use Rattle.doc_rules.specs.Parsers.{many}
use Rattle.doc_inlines_addresses.specs.EndSteps.{Leaves}
use Rattle.doc_inlines_addresses.proofs.ends.before_letters.Given as goal

abbrev pub invariant-letters : goal.invariant-letters
invariant-letters l = record {
  is_text : shadow (Utf8 l.rest);
  leaves : Leaves (chars l.text) (chars l.rest) 0;
  same : many is_ascii_alphabetic (reverse (chars l.text)) ≡ many is_ascii_alphabetic (reverse (chars l.rest));
}

abbrev pub decreases-letters : goal.decreases-letters
decreases-letters l = length (chars l.rest)
