use Rattle.std.proofs.Common.{◌≡◌, reverse, length, chars}
use denote.Text.{Utf8}
use denote.Shadow.{shadow}
use Rattle.doc_rules.specs.BareLinks.{count_of, without_end}
use Rattle.doc_inlines_addresses.specs.Fronts.{StandsInFront}
use Rattle.doc_inlines_addresses.proofs.ends.without_end.Given as goal

abbrev pub invariant-ends : goal.invariant-ends
invariant-ends l = record {
  is_text : shadow (Utf8 l.rest);
  opening : l.opening ≡ count_of 40 (chars l.rest);
  closing : l.closing ≡ count_of 41 (chars l.rest);
  front : StandsInFront (chars l.rest) (chars l.run);
  same : without_end 0 (reverse (chars l.run)) ≡ without_end 0 (reverse (chars l.rest));
}

abbrev pub decreases-ends : goal.decreases-ends
decreases-ends l = length (chars l.rest)
