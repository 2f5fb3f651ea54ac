use Rattle.std.proofs.Common.{◌∙◌, ◌<◌, ◌≤◌, true, false, drop, length}
use Rattle.std.proofs.Common.{sym, arith}
use Rattle.std.proofs.lemmas.List.{length-drop}
use Rattle.doc_blocks.specs.BuilderSteps.{state_of}
use Rattle.doc_blocks.proofs.LevelLemmas.{length_stack}
use Rattle.doc_blocks.proofs.BuilderLaws as laws
use Rattle.doc_blocks.proofs.builder.Builder.met.Goals as goal

pub returns-in-None : goal.returns-in-None
returns-in-None c =
    let s = state_of c.args.self.now in
    sym (laws.met_none c.args.entities.now (drop c.args.depth s.stack.outer) s.leaf (sym c.in-None.ensures))

pub returns-then-depth : goal.returns-then-depth
returns-then-depth c =
    let s = state_of c.args.self.now in
    let l = c.args.self.now.levels in
    let some : 0 < length (drop c.args.depth s.stack.outer) = omega
    (arith, length-drop c.args.depth s.stack.outer, length_stack l) in
    c.situation_at.ensures
    ∙ laws.met_at c.args.entities.now (drop c.args.depth s.stack.outer) s.leaf _ true _ (sym c.in-Some.ensures)
    c.is_in_table-table.ensures (λ _. some) (λ e. absurd cc)

pub returns : goal.returns
returns c =
    let s = state_of c.args.self.now in
    let l = c.args.self.now.levels in
    let none : length (drop c.args.depth s.stack.outer) ≤ 0 = omega
    (arith, length-drop c.args.depth s.stack.outer, length_stack l) in
    c.situation_at-2.ensures
    ∙ laws.met_at c.args.entities.now (drop c.args.depth s.stack.outer) s.leaf _ false _ (sym c.in-Some.ensures)
    c.is_in_table-table.ensures (λ e. absurd cc) (λ _. none)
