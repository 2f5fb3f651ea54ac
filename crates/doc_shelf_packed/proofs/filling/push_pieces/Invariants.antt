use Rattle.std.proofs.Common.{◌≡◌, ◌++◌, drop, string_bytes}
use Rattle.std.specs.Io.{StartsWith}
use Rattle.std.specs.List.{flat_map}
use Rattle.doc_page_parts.specs.Pages.{filled_piece}
use Rattle.doc_shelf_packed.specs.Pieces.{pieces_after, pieces_in}
use Rattle.doc_shelf_packed.proofs.filling.push_pieces.Given as goal

-- what is written, with the pieces of the texts that are left, is all
abbrev pub invariant-texts : goal.invariant-texts
invariant-texts g l = record {
  all : string_bytes l.out ++ flat_map (filled_piece (g.L.Linker.shown l.linker)) (pieces_after l.title (drop l.at l.texts))
      ≡ string_bytes l.fn.out ++ flat_map (filled_piece (g.L.Linker.shown l.linker)) (pieces_in l.texts);
  front : StartsWith (string_bytes l.out) (string_bytes l.fn.out);
}
