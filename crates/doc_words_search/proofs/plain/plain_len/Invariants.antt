use Rattle.std.proofs.Common.{◌≡◌, take, true}
use Rattle.std.specs.List.{list_all}
use Rattle.doc_words_search.specs.WordSteps.{is_plain}
use Rattle.doc_words_search.proofs.plain.plain_len.Given as goal

abbrev pub invariant-loop-at : goal.invariant-loop-at
invariant-loop-at l = list_all is_plain (take l.at l.bytes) ≡ true
