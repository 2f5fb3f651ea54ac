use Rattle.std.proofs.Common.{◌≡◌, chars, length}
use denote.Text.{Utf8}
use denote.Shadow.{shadow}
use Rattle.doc_words_search.specs.Words.{words_of}
use Rattle.doc_words_search.specs.WordSteps.{counted}
use Rattle.doc_words_search.proofs.counter.count_text.Given as goal

-- what is counted and what is left, the whole text has
abbrev pub invariant-runs : goal.invariant-runs
invariant-runs l = record {
  is_text : shadow (Utf8 l.rest);
  same : counted l.counter (words_of l.rest) ≡ counted l.fn.counter (words_of l.text);
}

abbrev pub decreases-runs : goal.decreases-runs
decreases-runs l = length (chars l.rest)
