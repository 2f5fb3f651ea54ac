use Rattle.doc_media.proofs.HeldSteps.{medium_got}
use Rattle.doc_media.proofs.media.Media.get.Goals as goal

pub returns-clause-medium : goal.returns-clause-medium
returns-clause-medium c =
    medium_got c.self.inside.held c.args.self.now c.args.path.now (λ medium. medium.now) c.get.result c.self.view_is c.get.ensures
