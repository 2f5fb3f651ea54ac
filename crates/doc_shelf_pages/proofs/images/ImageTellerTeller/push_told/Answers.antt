use Rattle.std.proofs.Common.{◌++◌, append-nil, not, ap, sym, ◌∙◌}
use Rattle.std.specs.Prelude.{Some}
use Rattle.doc_media.specs.Media.{beside_of}
use Rattle.doc_shelf_pages.proofs.ImageSteps.{no_media, none_told}
use Rattle.doc_shelf_pages.proofs.images.ImageTellerTeller.push_told.Goals as goal

pub returns-then-is_none : goal.returns-then-is_none
returns-then-is_none c =
    no_media c.args.all.now.items c.args.self.now.media.now c.args.self.now.reader.now c.args.path.now _
    (c.is_none.ensures ∙ ap not c.if-is_none.true)

pub returns-then-not-may_have_images : goal.returns-then-not-may_have_images
returns-then-not-may_have_images c =
    sym (append-nil c.args.all.now.items)
    ∙ ap (λ more. c.args.all.now.items ++ more)
    (sym (none_told (beside_of c.args.self.now.media.now (Some c.args.self.now.reader.now)) c.args.path.now
    c.args.self.now.kept.now.renderings (c.args.path.now, c.args.stamp)
    (c.may_have_images.ensures c.if-not-may_have_images.true)))
