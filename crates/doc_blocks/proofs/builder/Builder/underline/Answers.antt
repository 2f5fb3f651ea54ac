use Rattle.std.proofs.Common.{◌∙◌, drop}
use Rattle.std.proofs.Common.{ap, sym}
use Rattle.doc_blocks_leaves.specs.Paths.{finished}
use Rattle.doc_blocks.specs.StackSteps.{with_inner_blocks}
use Rattle.doc_blocks.specs.StateSteps.{shown}
use Rattle.doc_blocks.specs.BuilderSteps.{state_of}
use Rattle.doc_blocks.specs.LevelSteps.{stack_of}
use Rattle.doc_blocks.proofs.LeafLaws as leaves
use Rattle.doc_blocks.proofs.BuilderLaws as laws
use Rattle.doc_blocks.proofs.builder.Builder.underline.Goals as goal

pub returns-then-not-is_at_paragraph-clause-reached : goal.returns-then-not-is_at_paragraph-clause-reached
returns-then-not-is_at_paragraph-clause-reached c =
    let s = state_of c.args.self.now in
    leaves.underline_skipped c.args.entities.now c.args.depth c.args.level s
    (laws.none_at _ _ c.is_at_paragraph.ensures c.if-not-is_at_paragraph.true)

pub returns-clause-reached : goal.returns-clause-reached
returns-clause-reached c =
    let s = state_of c.args.self.now in
    let rules = c.args.entities.now in
    let there = laws.some_at _ _ c.is_at_paragraph.ensures c.if-not-is_at_paragraph.false in
    let leaf = (leaves.in_paragraph (drop c.args.depth s.stack.outer) s.leaf there.0 there.1).1 in
    leaves.underline_reached rules c.args.depth c.args.level s there.0 there.1
    ∙ ap shown (sym (laws.heading_there rules c.args.level s there.0 (stack_of c.put.new.self) (stack_of c.set_blank.new.self)
    c.underline.new.self c.underline.new.refs leaf
    (c.in_ok-put.ensures.stack ∙ ap (with_inner_blocks s.stack) (c.in_ok-block.ensures.block (finished s.stack.inner)))
    c.set_blank.ensures.stack c.in_ok-block.ensures.leaf c.in_ok-block.ensures.refs))
