use Rattle.std.proofs.Common.{◌∙◌}
use Rattle.doc_media.proofs.HeldSteps.{stands_in}
use Rattle.doc_media.proofs.media.Media.contains.Goals as goal

pub returns : goal.returns
returns c = c.contains.ensures ∙ stands_in c.self.inside.held c.args.self.now c.args.path.now c.self.view_is
