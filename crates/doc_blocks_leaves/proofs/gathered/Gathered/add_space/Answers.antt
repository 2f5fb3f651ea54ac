use Rattle.doc_blocks_leaves.proofs.GatheredSteps.{space_added}
use Rattle.doc_blocks_leaves.proofs.gathered.Gathered.add_space.Goals as goal

pub returns-clause-all : goal.returns-clause-all
returns-clause-all c = space_added c.add.result _ _ c.add.ensures.all
