use Rattle.doc_blocks_leaves.proofs.GatheredSteps.{ending_added}
use Rattle.doc_blocks_leaves.proofs.gathered.Gathered.add_ending.Goals as goal

pub returns-clause-all : goal.returns-clause-all
returns-clause-all c = ending_added c.add.result _ _ c.add.ensures.all
