use Rattle.std.proofs.Common.{◌≡◌, take}
use Rattle.std.specs.FinMap as map
use Rattle.doc_words_search.specs.WordSteps.{counted}
use Rattle.doc_words_search.proofs.in_order.different_words.Given as goal

abbrev pub invariant-loop-word : goal.invariant-loop-word
invariant-loop-word l = l.counter ≡ counted map.empty (take l.word-index l.words)
