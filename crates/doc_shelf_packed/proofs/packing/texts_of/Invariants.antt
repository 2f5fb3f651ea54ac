use Rattle.std.proofs.Common.{◌≡◌, take}
use Rattle.doc_index_tables.specs.Maps.{shown}
use Rattle.doc_shelf_packed.specs.Pieces.{texts_of}
use Rattle.doc_shelf_packed.proofs.packing.texts_of.Given as goal

-- the texts of the pieces so far
abbrev pub invariant-loop-piece : goal.invariant-loop-piece
invariant-loop-piece l = shown l.texts.items ≡ texts_of (take l.piece-index l.pieces)
