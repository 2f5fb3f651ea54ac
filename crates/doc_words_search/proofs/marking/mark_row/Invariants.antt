use Rattle.std.proofs.Common.{◌≡◌, length}
use Rattle.doc_words_search.specs.SearchSteps.{AreMarked, StayMarked}
use Rattle.doc_words_search.proofs.MarkSteps.{MarkedBut}
use Rattle.doc_words_search.proofs.marking.mark_row.Given as goal

-- what is marked so far
abbrev pub invariant-loop-slot : goal.invariant-loop-slot
invariant-loop-slot l = record {
  listed : AreMarked l.marks.items l.slots.items;
  stay : StayMarked l.fn.marks.items l.marks.items;
  same : length l.marks.items ≡ length l.fn.marks.items;
  but : MarkedBut l.slot-iterator l.marks.items (length l.fn.marks.items) l.fn.row;
}
