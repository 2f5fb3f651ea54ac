use Rattle.std.proofs.Common.{◌≡◌, List, Some}
use Rattle.std.specs.Prelude.{Option}
use Rattle.doc_links_names.specs.declared.page_numbers.PageNumbers.{PageNumbers}
use Rattle.doc_links_seen.specs.Numbered.{AreNamed, numbers_at}
use Rattle.doc_links_seen.proofs.WholeSteps.{AreIn}
use Rattle.doc_links_seen.proofs.named.Named.enter.Given as goal

-- what is left stands among the page's anchors, and those so far lead to it
abbrev pub invariant-loop-number : goal.invariant-loop-number
invariant-loop-number l =
    AreIn l.page.anchors l.number-iterator
    × ((numbers : List (Option PageNumbers)) → numbers_at numbers l.slot ≡ Some l.page → AreNamed numbers l.fn.self.slots.items
    → AreNamed numbers l.self.slots.items)
