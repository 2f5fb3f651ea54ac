use Rattle.std.proofs.Common.{◌<◌, ◌≤◌, ◌∙◌, ap, drop, length, is_some, Option}
use Rattle.std.proofs.Common.{arith}
use Rattle.std.proofs.lemmas.List.{length-drop}
use Rattle.doc_rules.specs.Characters.{Text}
use Rattle.doc_blocks.specs.BuilderSteps.{state_of}
use Rattle.doc_blocks.proofs.LevelLemmas.{length_stack}
use Rattle.doc_blocks.proofs.BuilderLaws as laws
use Rattle.doc_blocks.proofs.builder.Builder.is_at_paragraph.Goals as goal

pub returns-then-depth : goal.returns-then-depth
returns-then-depth c =
    let s = state_of c.args.self.now in
    let l = c.args.self.now.levels in
    let some : 0 < length (drop c.args.depth s.stack.outer) = omega
    (arith, length-drop c.args.depth s.stack.outer, length_stack l) in
    laws.not_at (drop c.args.depth s.stack.outer) s.leaf some

pub returns : goal.returns
returns c =
    let s = state_of c.args.self.now in
    let l = c.args.self.now.levels in
    let none : length (drop c.args.depth s.stack.outer) ≤ 0 = omega
    (arith, length-drop c.args.depth s.stack.outer, length_stack l) in
    c.is_some.ensures ∙ laws.same_some _ ∙ ap (λ (o : Option Text). is_some o) c.paragraph.ensures
    ∙ laws.is_at (drop c.args.depth s.stack.outer) s.leaf none
