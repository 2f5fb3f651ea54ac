use Rattle.std.proofs.Common.{◌∙◌}
use Rattle.std.proofs.Common.{ap}
use Rattle.doc_blocks_leaves.specs.Paths.{finished}
use Rattle.doc_lines.specs.Cursors.{left_of}
use Rattle.doc_blocks_leaves.specs.Starts.{leaf_lines}
use Rattle.doc_blocks.specs.StackSteps.{with_inner_blocks}
use Rattle.doc_blocks.specs.BuilderSteps.{state_of}
use Rattle.doc_blocks.specs.LevelSteps.{stack_of}
use Rattle.doc_blocks.proofs.BuilderLaws as laws
use Rattle.doc_blocks.proofs.builder.Builder.begin_new.Goals as goal

pub returns-clause-state : goal.returns-clause-state
returns-clause-state c =
    let m = state_of c.close_to.new.self in
    let lines = leaf_lines (left_of c.args.line.now) c.args.leaf in
    let rules = c.args.entities.now in
    laws.leaf_put_there rules lines m (stack_of c.begin_block.new.self) (stack_of c.put.new.self) c.begin.new.self
    c.in_ok-begin_block.ensures.stack
    c.in_ok-block.ensures.leaf
    (c.in_ok-put.ensures.stack ∙ ap (with_inner_blocks (stack_of c.begin_block.new.self))
    (c.in_ok-block.ensures.block (finished (stack_of c.begin_block.new.self).inner)))
    ∙ ap (laws.lines_there rules lines) c.in_ok-close_to.ensures.state
