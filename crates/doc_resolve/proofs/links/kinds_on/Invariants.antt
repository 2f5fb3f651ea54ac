use Rattle.std.proofs.Common.{◌≡◌, take}
use Rattle.std.specs.List.{flat_map}
use Rattle.doc_resolve.specs.Links.{kinds_in, on_path}
use Rattle.doc_resolve.proofs.DotSteps.{texts}
use Rattle.doc_resolve.proofs.links.kinds_on.Given as goal

-- the pieces so far
abbrev pub invariant-loop-piece : goal.invariant-loop-piece
invariant-loop-piece l = l.all.items ≡ flat_map (kinds_in (on_path (texts l.base))) (take l.piece-index l.pieces)
