use Rattle.std.proofs.Common.{◌∙◌}
use Rattle.std.proofs.Common.{ap, sym}
use Rattle.doc_lines.specs.Cursors.{left_of}
use Rattle.doc_blocks_leaves.specs.Starts.{start_shown, leaf_lines}
use Rattle.doc_blocks.specs.StateSteps.{below, shown, reached}
use Rattle.doc_blocks.specs.BuilderSteps.{state_of}
use Rattle.doc_blocks.proofs.LeafLaws as leaves
use Rattle.doc_blocks_leaves.specs.OpenBlocks.{leaf_begun}
use Rattle.doc_blocks_leaves.specs.declared.start.LeafStart.{LeafStart}
use Rattle.doc_blocks.proofs.builder.Builder.begin_leaf.Goals as goal

pub returns-in_ok-begin_new-in-New-clause-reached : goal.returns-in_ok-begin_new-in-New-clause-reached
unfolding start_shown
returns-in_ok-begin_new-in-New-clause-reached c =
    let s = state_of c.args.self.now in
    let line = left_of c.args.line.now in
    ap (λ (x : LeafStart). reached c.args.depth s (leaf_begun c.args.entities.now (below c.args.depth s) (start_shown line x))) c.in-New.is
    ∙ (leaves.leaf_reached c.args.entities.now c.args.depth s (leaf_lines line c.in-New.leaf)
    ∙ ap shown (sym c.in_ok-begin_new-in-New.ensures.state))

pub returns-in_ok-underline-in-Underline-clause-reached : goal.returns-in_ok-underline-in-Underline-clause-reached
unfolding start_shown
returns-in_ok-underline-in-Underline-clause-reached c =
    let s = state_of c.args.self.now in
    let line = left_of c.args.line.now in
    ap (λ (x : LeafStart). reached c.args.depth s (leaf_begun c.args.entities.now (below c.args.depth s) (start_shown line x)))
    c.in-Underline.is
    ∙ c.in_ok-underline-in-Underline.ensures.reached
