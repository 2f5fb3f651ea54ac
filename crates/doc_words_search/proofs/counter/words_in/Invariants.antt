use Rattle.std.proofs.Common.{◌≡◌, take}
use Rattle.doc_words_search.proofs.counter.words_in.Given as goal

abbrev pub invariant-loop-at : goal.invariant-loop-at
invariant-loop-at l = l.words.items ≡ take l.at l.entries
