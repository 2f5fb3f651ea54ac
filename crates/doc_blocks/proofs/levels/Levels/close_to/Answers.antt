use Rattle.std.proofs.Common.{◌≤◌, ◌∙◌, sym, arith, length, refl}
use Rattle.doc_blocks.specs.LevelSteps.{stack_of}
use Rattle.doc_blocks.proofs.LevelLemmas.{length_stack}
use Rattle.doc_blocks.proofs.PathLaws.{closes_one_more, closes_no_more}
use Rattle.doc_blocks.proofs.levels.Levels.close_to.Goals as goal

pub containers-preserved : goal.containers-preserved
containers-preserved c =
    let n = c.close_last.new.self in
    let within : c.args.depth ≤ length (stack_of n).outer = omega
    (arith, length_stack n, c.in_ok-close_last.ensures.depth) in
    record {
      sound = c.in_ok-close_last.ensures.sound;
      within = omega (arith, c.in_ok-close_last.ensures.depth);
      closes = closes_one_more c.args.depth (stack_of c.containers.self) (stack_of n) (stack_of c.args.self.now) within
          c.in_ok-close_last.ensures.closes c.containers.invariant.closes;
    }

pub returns-clause-stack : goal.returns-clause-stack
returns-clause-stack c =
    let n = c.containers.self in
    let all : length (stack_of n).outer ≤ c.args.depth = omega (arith, length_stack n) in
    sym (closes_no_more c.args.depth (stack_of n) all) ∙ (c.containers.invariant.closes ∙ refl)
