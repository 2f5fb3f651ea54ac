use Rattle.std.proofs.Common.{◌≡◌, ◌++◌, string_bytes, take}
use Rattle.std.specs.Prelude.{map as mapped}
use Rattle.doc_words_search.proofs.tally.sorted_keys.Given as goal

abbrev pub invariant-loop-word : goal.invariant-loop-word
invariant-loop-word l = l.keys.items ≡ l.fn.plain.items ++ mapped string_bytes (take l.word-index l.others)
