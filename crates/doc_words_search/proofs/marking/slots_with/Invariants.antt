use Rattle.std.proofs.Common.{◌≡◌, length, take}
use Rattle.doc_words_search.specs.SearchSteps.{AreMarked, MarksWords}
use Rattle.doc_words_search.proofs.marking.slots_with.Given as goal

-- the words so far
abbrev pub invariant-loop-word : goal.invariant-loop-word
invariant-loop-word l = record {
  listed : AreMarked l.marks.items l.slots.items;
  same : length l.marks.items ≡ l.count;
  words : MarksWords l.pages l.marks.items (take l.word-index l.words);
}
