use Rattle.std.proofs.Common.{ap, ◌∙◌}
use Rattle.doc_index_tables.specs.Maps.{shown}
use Rattle.doc_shelf_packed.specs.Pieces.{texts_of}
use Rattle.doc_shelf_packed.proofs.PieceSteps.{packed_of}
use Rattle.doc_shelf_packed.proofs.page.PackedPage.of.Goals as goal

pub returns : goal.returns
returns c = λ i. record {
  pieces = packed_of c.args.page.pieces _ c.in_ok-pieces.pieces (c.in_ok-entries.ensures ∙ ap texts_of c.get.ensures)
      (c.in_ok-pieces.ensures ∙ ap shown c.deref.ensures.value) i;
  headings = c.args.page.headings;
  texts = c.args.page.texts;
  images = c.args.page.images;
}
