use Rattle.std.proofs.Common.{◌≡◌, take}
use Rattle.std.specs.FinMap as map
use Rattle.std.specs.List.{flat_map}
use Rattle.doc_words_search.specs.Words.{words_of}
use Rattle.doc_words_search.specs.WordSteps.{counted}
use Rattle.doc_words_search.proofs.words.gathered.Given as goal

-- the words of the texts so far
abbrev pub invariant-loop-text : goal.invariant-loop-text
invariant-loop-text l = l.counter ≡ counted map.empty (flat_map words_of (take l.text-index l.texts))
