use Rattle.std.proofs.Common.{◌≡◌, take}
use Rattle.doc_shelf_packed.proofs.copying.headings_of.Given as goal

-- the headings so far
abbrev pub invariant-loop-heading : goal.invariant-loop-heading
invariant-loop-heading l = l.copies.items ≡ take l.heading-index l.headings
