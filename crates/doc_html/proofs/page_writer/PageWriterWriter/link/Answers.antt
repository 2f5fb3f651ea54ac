use Rattle.std.proofs.Common.{refl}
use Rattle.doc_page_parts.specs.declared.rendered.Piece.TheVariants.{Link}
use Rattle.doc_inlines_marks.specs.Targets.{named}
use Rattle.doc_html.proofs.PageSteps.{holds_link}
use Rattle.doc_html.proofs.page_writer.PageWriterWriter.link.Goals as goal

pub returns : goal.returns
returns c = λ p h.
    holds_link _ _ _ _ _ c.args.self.now.fresh _ _ _ _ c.args.self.now.tells_images _ p (Link c.in_ok-spot.spot) (named c.args.target) h
    c.in_ok-cut.ensures.pieces c.in_ok-cut.ensures.html c.in_ok-push.ensures.items
    c.in_ok-spot.ensures refl
