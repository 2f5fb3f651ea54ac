use Rattle.std.proofs.Common.{◌≡◌, ◌+◌, chars, length}
use Rattle.std.specs.Prelude.{option_map}
use denote.Text.{Utf8}
use denote.Shadow.{shadow}
use Rattle.doc_people.specs.Snippets.{met_at, parts}
use Rattle.doc_people_search.proofs.parts.match_at.Given as goal

-- how many characters were read, and that none of their parts is met
abbrev pub invariant-loop-part : goal.invariant-loop-part
invariant-loop-part l = record {
  is_text : shadow (Utf8 l.rest);
  read : l.at + length (chars l.rest) ≡ length (chars l.text);
  same : met_at l.terms (parts (chars l.text)) ≡ option_map (λ n. l.at + n) (met_at l.terms (parts (chars l.rest)));
}

abbrev pub decreases-loop-part : goal.decreases-loop-part
decreases-loop-part l = length (chars l.rest)
