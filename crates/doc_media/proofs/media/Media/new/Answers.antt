use Rattle.doc_media.proofs.HeldSteps.{nothing_held, nothing_named}
use Rattle.doc_media.proofs.media.Media.new.Goals as goal

pub invariant_of-result : goal.invariant_of-result
invariant_of-result c = nothing_named c.new.result c.new.ensures

pub returns : goal.returns
returns c = nothing_held c.new.result c.new.ensures
