use Rattle.std.proofs.Common.{◌≡◌, ◌-◌}
use Rattle.doc_blocks_leaves.specs.OpenBlocks.{start_step}
use Rattle.doc_lines.specs.Cursors.{left_of}
use Rattle.doc_blocks.specs.StateSteps.{below, met, reached}
use Rattle.doc_blocks.specs.BuilderSteps.{state_of, IsReady}
use Rattle.doc_blocks.proofs.builder.Builder.begin.Given as goal

abbrev pub invariant-containers : goal.invariant-containers
invariant-containers l = record {
  ready : IsReady l.self l.depth;
  reached : reached l.from (state_of l.fn.self) (start_step (100 - l.from) l.entities (met l.entities l.from (state_of l.fn.self))
      (left_of l.fn.line)
      (below l.from (state_of l.fn.self)))
      ≡ reached l.depth (state_of l.self) (start_step (100 - l.depth) l.entities (met l.entities l.depth (state_of l.self)) (left_of l.line)
      (below l.depth (state_of l.self)));
}

abbrev pub decreases-containers : goal.decreases-containers
decreases-containers l = 100 - l.depth
