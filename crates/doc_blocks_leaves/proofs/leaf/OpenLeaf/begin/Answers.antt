use Rattle.std.proofs.Common.{refl, chars}
use Rattle.doc_blocks_leaves.specs.Leaves.{open_of}
use Rattle.doc_blocks_starts.specs.Fences.{fence_shown}
use Rattle.doc_blocks_leaves.specs.OpenLeaves.{leaf_shown}
use Rattle.doc_blocks_leaves.specs.Starts.{leaf_lines}
use Rattle.doc_blocks_leaves.specs.Views.{with_block}
use Rattle.doc_blocks_leaves.proofs.LeafSteps.{heading_begun, break_begun, fence_begun, fence_opened}
use Rattle.doc_blocks_leaves.proofs.leaf.OpenLeaf.begin.Goals as goal

pub returns-in_ok-keep-in-Heading-clause-leaf : goal.returns-in_ok-keep-in-Heading-clause-leaf
unfolding leaf_shown leaf_lines open_of
returns-in_ok-keep-in-Heading-clause-leaf c = rw c.in-Heading.is refl

pub returns-in_ok-keep-in-Heading-clause-block : goal.returns-in_ok-keep-in-Heading-clause-block
unfolding leaf_lines
returns-in_ok-keep-in-Heading-clause-block c =
    rw c.in-Heading.is (λ before. heading_begun c.args.entities.now c.in-Heading.heading.level c.in_ok-keep-in-Heading.field-0
    c.in-Heading.heading.text before c.in_ok-keep-in-Heading.ensures)

pub returns-in_ok-info-in-Fenced-clause-leaf : goal.returns-in_ok-info-in-Fenced-clause-leaf
unfolding leaf_shown leaf_lines
returns-in_ok-info-in-Fenced-clause-leaf c =
    rw c.in-Fenced.is (fence_opened c.args.entities.now (fence_shown c.in-Fenced.start.fence) (chars c.in-Fenced.start.info.now)
    (chars c.in_ok-info-in-Fenced.info) c.clear.new.self.all c.in_ok-info-in-Fenced.ensures c.clear.ensures.all)

pub returns-in_ok-info-in-Fenced-clause-block : goal.returns-in_ok-info-in-Fenced-clause-block
unfolding leaf_lines with_block
returns-in_ok-info-in-Fenced-clause-block c =
    rw c.in-Fenced.is (λ before. fence_begun c.args.entities.now (fence_shown c.in-Fenced.start.fence) (chars c.in-Fenced.start.info.now)
    before)

pub returns-in-Html-clause-leaf : goal.returns-in-Html-clause-leaf
unfolding leaf_lines
returns-in-Html-clause-leaf c = rw c.in-Html.is (c.begin_html.ensures.leaf c.args.entities.now)

pub returns-in-Html-clause-block : goal.returns-in-Html-clause-block
unfolding leaf_lines
returns-in-Html-clause-block c = rw c.in-Html.is (c.begin_html.ensures.block c.args.entities.now)

pub returns-in-Break-clause-leaf : goal.returns-in-Break-clause-leaf
unfolding leaf_shown leaf_lines open_of
returns-in-Break-clause-leaf c = rw c.in-Break.is refl

pub returns-in-Break-clause-block : goal.returns-in-Break-clause-block
unfolding leaf_lines
returns-in-Break-clause-block c = rw c.in-Break.is (λ before. break_begun c.args.entities.now before)
