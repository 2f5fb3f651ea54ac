use Rattle.std.proofs.Common.{◌≡◌, ◌≤◌, chars, length, string_bytes}
use denote.Text.{Utf8}
use denote.Shadow.{shadow}
use Rattle.doc_words_search.specs.Words.{words_of}
use Rattle.doc_words_search.specs.WordSteps.{words_after}
use Rattle.doc_words_search.proofs.counter.count_other.Given as goal

-- what the run and the rest have, the whole text has
abbrev pub invariant-characters : goal.invariant-characters
invariant-characters l = record {
  is_text : shadow (Utf8 l.rest);
  kept : l.counter ≡ l.fn.counter;
  same : words_after (chars (string_bytes l.run)) (chars l.rest) ≡ words_of l.text;
  fewer : length (chars l.rest) ≤ length (chars l.text);
}

abbrev pub decreases-characters : goal.decreases-characters
decreases-characters l = length (chars l.rest)
