use Rattle.std.proofs.Common.{◌≡◌, take, true}
use Rattle.std.specs.Char.{is_ascii_alphanumeric}
use Rattle.std.specs.List.{list_all}
use Rattle.doc_words_search.proofs.plain.ascii_len.Given as goal

abbrev pub invariant-loop-at : goal.invariant-loop-at
invariant-loop-at l = list_all is_ascii_alphanumeric (take l.at l.bytes) ≡ true
