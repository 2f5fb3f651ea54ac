use Rattle.std.proofs.Common.{◌≡◌, ◌++◌, take, string_bytes}
use Rattle.std.specs.List.{flat_map}
use Rattle.doc_page_parts.specs.Pages.{filled_piece}
use Rattle.doc_page_parts.proofs.filling.push_filled.Given as goal

-- the pieces so far are written
abbrev pub invariant-loop-piece : goal.invariant-loop-piece
invariant-loop-piece g l = string_bytes l.out ≡ string_bytes l.fn.out
    ++ flat_map (filled_piece (g.L.Linker.shown l.linker)) (take l.piece-index l.piece-items)
