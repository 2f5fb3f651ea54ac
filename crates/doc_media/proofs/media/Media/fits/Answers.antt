use Rattle.doc_media.proofs.HeldSteps.{fits_is}
use Rattle.doc_media.proofs.media.Media.fits.Goals as goal

pub returns : goal.returns
returns c =
    fits_is c.self.inside.held c.args.self.now c.args.path.now c.args.bytes.now c.contains.result c.len.result c.fits.result
    c.self.view_is c.contains.ensures c.len.ensures c.fits.ensures
