use Rattle.std.proofs.Common.{chars}
use Rattle.doc_html_anchors.specs.Numbers.{names, AreUsed}
use Rattle.doc_html_anchors.proofs.numbers.next_number.Given as goal

abbrev pub invariant-numbers : goal.invariant-numbers
invariant-numbers l = AreUsed (names l.entries) (chars l.name) l.first l.number
