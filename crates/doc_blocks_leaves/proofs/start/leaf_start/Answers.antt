use Rattle.doc_blocks_leaves.proofs.StartSteps.{margin_of}
use Rattle.doc_blocks_leaves.proofs.start.leaf_start.Goals as goal

pub text_start-requires : goal.text_start-requires
text_start-requires c = margin_of _ _ c.in-Some.ensures
