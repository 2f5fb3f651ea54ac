use Rattle.std.proofs.Common.{◌≡◌, ◌+◌, chars, length, not}
use Rattle.std.specs.List.{suffix_len}
use denote.Text.{Utf8}
use denote.Shadow.{shadow}
use Rattle.doc_rules.specs.Characters.{is_white}
use Rattle.doc_people_search.proofs.places.last_word_len.Given as goal

-- how many characters were read, and that none of them is white space
abbrev pub invariant-loop-rest : goal.invariant-loop-rest
invariant-loop-rest l = record {
  is_text : shadow (Utf8 l.front);
  read : l.count + length (chars l.front) ≡ length (chars l.text);
  same : suffix_len (λ c. not (is_white c)) (chars l.text) ≡ l.count + suffix_len (λ c. not (is_white c)) (chars l.front);
}

abbrev pub decreases-loop-rest : goal.decreases-loop-rest
decreases-loop-rest l = length (chars l.front)
