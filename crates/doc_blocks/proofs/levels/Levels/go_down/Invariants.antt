use Rattle.std.proofs.Common.{◌≡◌, ◌≤◌, ◌-◌, vec_len, take, drop}
use Rattle.doc_lines.specs.Cursors.{left_of}
use Rattle.doc_blocks.specs.PathSteps.{descended, behind_these}
use Rattle.doc_blocks.specs.LevelSteps.{stack_of, IsSound}
use Rattle.doc_blocks.proofs.levels.Levels.go_down.Given as goal

abbrev pub invariant-containers : goal.invariant-containers
invariant-containers l = record {
  sound : IsSound l.self;
  within : l.depth ≤ vec_len l.self.outer;
  descent : descended (stack_of l.fn.self).outer (left_of l.fn.line) ≡ behind_these (take l.depth (stack_of l.self).outer)
      (descended (drop l.depth (stack_of l.self).outer) (left_of l.line));
  inner : (stack_of l.self).inner ≡ (stack_of l.fn.self).inner;
  blank : (stack_of l.self).blank ≡ (stack_of l.fn.self).blank;
}

abbrev pub decreases-containers : goal.decreases-containers
decreases-containers l = vec_len l.self.outer - l.depth
