use Rattle.std.proofs.Common.{Bool, take, drop, ◌≤◌, ◌∙◌, ap, sym, arith, length}
use Rattle.doc_blocks.specs.LevelSteps.{stack_of}
use Rattle.doc_blocks.specs.StackSteps.{Outer, Stack}
use Rattle.doc_blocks.specs.PathSteps.{Descent}
use Rattle.doc_blocks_starts.specs.Lines.{inside_of}
use Rattle.std.specs.Prelude.{List}
use Rattle.doc_lines.specs.Cursors.{Position, left_of}
use Rattle.doc_blocks.proofs.LevelLemmas.{length_stack}
use Rattle.doc_blocks.proofs.PathLaws.{goes_further, goes_no_further, goes_through}
use Rattle.doc_blocks.proofs.levels.Levels.go_down.Goals as goal

abbrev stopped_with : List Outer → List Outer → Position → Descent
stopped_with passed below place = record { passed = passed; below = below; rest = left_of place }

pub containers-preserved : goal.containers-preserved
containers-preserved c =
    let s = c.containers.self in
    let n = c.go_on_at.new.self in
    let at = c.matched_at.ensures.inside in
    let gone = c.go_on_at.ensures.stack in
    record {
      sound = c.go_on_at.ensures.sound;
      within = omega arith;
      descent = goes_further c.containers.depth (stack_of s).outer (stack_of n).outer _ at.here (left_of c.containers.line)
          (left_of c.matched_at.new.line) _ at.split
          (sym at.found_is ∙ ap (λ (b : Bool). inside_of b c.matched_at.new.line) c.if-not-matched_at.false)
          (ap (λ (t : Stack). t.outer) gone) c.containers.invariant.descent;
      inner = ap (λ (t : Stack). t.inner) gone ∙ c.containers.invariant.inner;
      blank = ap (λ (t : Stack). t.blank) gone ∙ c.containers.invariant.blank;
    }

pub returns-then-not-matched_at-clause-goes : goal.returns-then-not-matched_at-clause-goes
returns-then-not-matched_at-clause-goes c =
    let s = c.containers.self in
    let at = c.matched_at.ensures.inside in
    let depth = c.containers.depth in
    record {
      descent = goes_no_further depth (stack_of s).outer _ at.here (left_of c.containers.line) _ at.split
          (sym at.found_is ∙ ap (λ (b : Bool). inside_of b c.matched_at.new.line) c.if-not-matched_at.true)
          c.containers.invariant.descent
          ∙ ap (λ (p : Position). stopped_with (take depth (stack_of s).outer) (drop depth (stack_of s).outer) p)
          (sym (c.matched_at.ensures.stays c.if-not-matched_at.true));
      inner = c.containers.invariant.inner;
      blank = c.containers.invariant.blank;
    }

pub returns-clause-goes : goal.returns-clause-goes
returns-clause-goes c =
    let s = c.containers.self in
    let all : length (stack_of s).outer ≤ c.containers.depth = omega (arith, length_stack s) in
    record {
      descent = goes_through c.containers.depth (stack_of s).outer (left_of c.containers.line) _ all c.containers.invariant.descent;
      inner = c.containers.invariant.inner;
      blank = c.containers.invariant.blank;
    }
