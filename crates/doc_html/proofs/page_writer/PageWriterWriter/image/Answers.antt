use Rattle.std.proofs.Common.{◌∙◌, chars, refl}
use Rattle.doc_html.proofs.ImageSteps.{image_untold, image_told}
use Rattle.doc_html.proofs.PageSteps.{holds_image, bytes_are}
use Rattle.doc_html.proofs.page_writer.PageWriterWriter.image.Goals as goal

pub returns-then-not-self : goal.returns-then-not-self
returns-then-not-self c = λ p h.
    holds_image _ _ c.args.self.now.fresh _ _ _ _ c.args.self.now.tells_images _ _ p (chars c.args.dest.now) h refl
    (image_untold c.args.self.now.tells_images _ p.output (chars c.args.dest.now) c.if-not-self.true h.images_are)

pub returns : goal.returns
returns c = λ p h.
    holds_image _ _ c.args.self.now.fresh _ _ _ _ c.args.self.now.tells_images _ _ p (chars c.args.dest.now) h refl
    (image_told c.args.self.now.tells_images _ _ _ p.output (chars c.args.dest.now) c.if-not-self.false h.images_are
    (c.in_ok-dest.ensures ∙ bytes_are c.args.dest.now c.utf8.dest) c.in_ok-push.ensures.items)
