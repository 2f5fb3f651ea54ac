use Rattle.std.proofs.Common.{◌≡◌, ◌++◌, drop}
use Rattle.doc_shelf_packed.specs.Pieces.{pieces_after, pieces_in}
use Rattle.doc_shelf_packed.proofs.unpacking.pieces_of.Given as goal

-- the pieces so far, with those of the texts that are left, are all
abbrev pub invariant-texts : goal.invariant-texts
invariant-texts l = l.pieces.items ++ pieces_after l.title (drop l.at l.texts) ≡ pieces_in l.texts
