use Rattle.std.proofs.Common.{◌∙◌}
use Rattle.std.proofs.Common.{ap, sym}
use Rattle.doc_blocks_leaves.specs.Leaves.{NoLeaf}
use Rattle.doc_blocks_leaves.specs.Paths.{Level, finished}
use Rattle.doc_blocks.specs.StackSteps.{with_inner_blocks}
use Rattle.doc_blocks.specs.BuilderSteps.{state_of}
use Rattle.doc_blocks.specs.LevelSteps.{stack_of}
use Rattle.doc_blocks.proofs.LeafLaws as leaves
use Rattle.doc_blocks.proofs.BuilderLaws as laws
use Rattle.doc_blocks.proofs.builder.Builder.close_leaf.Goals as goal

pub returns-then-not-is_open-clause-state : goal.returns-then-not-is_open-clause-state
returns-then-not-is_open-clause-state c =
    leaves.leaf_closed_none c.args.entities.now (state_of c.args.self.now)
    (laws.none_open c.args.self.now.leaf (sym c.is_open.ensures ∙ c.if-not-is_open.true))

pub returns-clause-state : goal.returns-clause-state
returns-clause-state c =
    let s = c.args.self.now in
    let stack = stack_of s.levels in
    laws.same_state (stack_of c.put_closed.new.self) _ c.close.new.self NoLeaf c.close.new.refs _
    (c.in_ok-put_closed.ensures.stack
    ∙ (ap (with_inner_blocks stack) (c.in_ok-blocks.ensures.blocks (finished stack.inner))
    ∙ ap (λ (l : Level). record stack { inner = l })
    (sym (leaves.leaf_closed_some c.args.entities.now stack.inner s.leaf
    (laws.some_open s.leaf (sym c.is_open.ensures ∙ c.if-not-is_open.false))))))
    c.in_ok-blocks.ensures.leaf c.in_ok-blocks.ensures.refs
