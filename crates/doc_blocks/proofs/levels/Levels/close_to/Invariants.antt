use Rattle.std.proofs.Common.{◌≡◌, ◌≤◌, vec_len}
use Rattle.doc_blocks.specs.PathSteps.{closed_to}
use Rattle.doc_blocks.specs.LevelSteps.{stack_of, IsSound}
use Rattle.doc_blocks.proofs.levels.Levels.close_to.Given as goal

abbrev pub invariant-containers : goal.invariant-containers
invariant-containers l = record {
  sound : IsSound l.self;
  within : l.depth ≤ vec_len l.self.outer;
  closes : closed_to l.depth (stack_of l.self) ≡ closed_to l.depth (stack_of l.fn.self);
}

abbrev pub decreases-containers : goal.decreases-containers
decreases-containers l = vec_len l.self.outer
