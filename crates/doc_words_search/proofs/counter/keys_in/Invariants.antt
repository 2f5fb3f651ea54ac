use Rattle.std.proofs.Common.{◌≡◌, take}
use Rattle.std.specs.Prelude.{map as mapped}
use Rattle.doc_words_search.proofs.counter.keys_in.Given as goal

abbrev pub invariant-loop-at : goal.invariant-loop-at
invariant-loop-at l = l.words.items ≡ mapped (λ entry. entry.0) (take l.at l.entries)
