use Rattle.doc_blocks_leaves.proofs.TableSteps.{no_table_left, no_table_defines, table_left, table_defines}
use Rattle.doc_blocks_leaves.proofs.paragraph.paragraph_blocks.Goals as goal

pub returns-in_default-clause-blocks : goal.returns-in_default-clause-blocks
returns-in_default-clause-blocks c = λ before.
    no_table_left _ _ _ _ before c.in_default.ensures (c.of.ensures before) (c.in_ok-block.ensures.block before)

pub returns-in_default-clause-refs : goal.returns-in_default-clause-refs
returns-in_default-clause-refs c = no_table_defines _ _ _ _ c.in_default.ensures c.in_ok-block.ensures.refs

pub returns-clause-blocks : goal.returns-clause-blocks
returns-clause-blocks c = λ before.
    table_left _ _ _ _ _ _ before c.in-Some.ensures (c.in_ok-block-2.ensures.block before) c.in_ok-table.ensures

pub returns-clause-refs : goal.returns-clause-refs
returns-clause-refs c = table_defines _ _ _ _ _ _ c.in-Some.ensures c.in_ok-block-2.ensures.refs
