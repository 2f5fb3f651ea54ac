use Rattle.std.proofs.Common.{◌∙◌}
use Rattle.std.proofs.Common.{ap, sym}
use Rattle.doc_rules.specs.Trees.{Situation, leaf_begins}
use Rattle.doc_lines.specs.Cursors.{left_of}
use Rattle.doc_blocks_leaves.specs.Starts.{start_shown, start_of}
use Rattle.doc_blocks.specs.BuilderSteps.{state_of}
use Rattle.doc_blocks.proofs.StateLaws as states
use Rattle.doc_blocks.proofs.builder.Builder.put_leaf.Goals as goal

pub returns-in_ok-begin_leaf-in-Some-clause-reached : goal.returns-in_ok-begin_leaf-in-Some-clause-reached
returns-in_ok-begin_leaf-in-Some-clause-reached c =
    let s = state_of c.args.self.now in
    let line = left_of c.args.line.now in
    let rules = c.args.entities.now in
    let a_leaf = ap (λ (t : Situation). leaf_begins rules t line) (sym c.met.ensures)
    ∙ (sym c.in_ok-start.ensures ∙ ap (start_of line) c.in-Some.is) in
    states.last_leaf rules c.args.depth s (state_of c.begin_leaf.new.self) line (start_shown line c.in-Some.start) a_leaf
    c.in_ok-begin_leaf-in-Some.ensures.reached

pub returns-in_ok-put_text-in-None-clause-reached : goal.returns-in_ok-put_text-in-None-clause-reached
returns-in_ok-put_text-in-None-clause-reached c =
    let s = state_of c.args.self.now in
    let line = left_of c.args.line.now in
    let rules = c.args.entities.now in
    let no_leaf = ap (λ (t : Situation). leaf_begins rules t line) (sym c.met.ensures)
    ∙ (sym c.in_ok-start.ensures ∙ ap (start_of line) c.in-None.is) in
    states.last_text rules c.args.depth s (state_of c.put_text.new.self) line no_leaf c.in_ok-put_text-in-None.ensures.reached
