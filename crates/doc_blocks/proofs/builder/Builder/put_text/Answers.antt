use Rattle.std.proofs.Common.{◌∙◌, true, [], refl}
use Rattle.std.proofs.Common.{ap, sym}
use Rattle.doc_rules.specs.Trees.{Situation, line_text}
use Rattle.doc_blocks_leaves.specs.OpenBlocks.{goes_on_with}
use Rattle.doc_blocks_leaves.specs.Leaves.{OpenLeaf, OpenCode, OpenParagraph, code_with}
use Rattle.doc_blocks_leaves.specs.Paths.{Here}
use Rattle.doc_lines.specs.Cursors.{left_of}
use Rattle.doc_blocks.specs.StackSteps.{block_begun}
use Rattle.doc_blocks.specs.StateSteps.{State, shown}
use Rattle.doc_blocks.specs.BuilderSteps.{state_of}
use Rattle.doc_blocks.specs.LevelSteps.{stack_of}
use Rattle.doc_blocks.proofs.LeafLaws as leaves
use Rattle.doc_blocks.proofs.BuilderLaws as laws
use Rattle.doc_blocks.proofs.builder.Builder.put_text.Goals as goal

pub returns-then-is_blank_line-clause-reached : goal.returns-then-is_blank_line-clause-reached
returns-then-is_blank_line-clause-reached c =
    let s = state_of c.args.self.now in
    let m = c.close_to.new.self in
    leaves.text_blank c.args.entities.now c.args.depth s (left_of c.args.line.now) (sym c.is_blank_line.ensures ∙ c.if-is_blank_line.true)
    ∙ ap shown (sym (laws.same_state (stack_of c.set_blank.new.self) _ m.leaf _ m.refs _ c.set_blank.ensures.stack refl refl
    ∙ ap (λ (t : State). record t { stack = record t.stack { blank = true } }) c.in_ok-close_to.ensures.state))

pub returns-then-goes_on_with-clause-reached : goal.returns-then-goes_on_with-clause-reached
returns-then-goes_on_with-clause-reached c =
    let s = state_of c.args.self.now in
    let line = left_of c.args.line.now in
    leaves.text_continues c.args.entities.now c.args.depth s line c.continue_paragraph.new.self (sym c.is_blank_line.ensures
    ∙ c.if-is_blank_line.false)
    (ap (λ (s : Situation). goes_on_with s line) (sym c.met.ensures) ∙ sym c.goes_on_with.ensures ∙ c.if-goes_on_with.true)
    (laws.continues_here line s.stack.inner s.leaf s.stack.blank
    ∙ ap (λ (l : OpenLeaf). Here s.stack.inner l s.stack.blank) (sym c.in_ok-continue_paragraph.ensures))

pub returns-then-is_indented-clause-reached : goal.returns-then-is_indented-clause-reached
returns-then-is_indented-clause-reached c =
    let s = state_of c.args.self.now in
    let m = c.close_to-2.new.self in
    leaves.text_code c.args.entities.now c.args.depth s (left_of c.args.line.now) (sym c.is_blank_line.ensures ∙ c.if-is_blank_line.false)
    (ap (λ (s : Situation). goes_on_with s (left_of c.args.line.now)) (sym c.met.ensures) ∙ sym c.goes_on_with.ensures
    ∙ c.if-goes_on_with.false) (sym c.is_indented.ensures ∙ c.if-is_indented.true)
    ∙ ap shown (sym (laws.same_state (stack_of c.begin_block.new.self) _ c.begin_code.new.self _ m.refs _ c.in_ok-begin_block.ensures.stack
    c.in_ok-begin_code.ensures refl
    ∙ ap (λ (t : State). record t {
      stack = block_begun t.stack;
      leaf = OpenCode (code_with (left_of c.args.line.now) [])
          (code_with (left_of c.args.line.now) []);
    }) c.in_ok-close_to-2.ensures.state))

pub returns-clause-reached : goal.returns-clause-reached
returns-clause-reached c =
    let s = state_of c.args.self.now in
    let m = c.close_to-2.new.self in
    leaves.text_begins c.args.entities.now c.args.depth s (left_of c.args.line.now) (sym c.is_blank_line.ensures ∙ c.if-is_blank_line.false)
    (ap (λ (s : Situation). goes_on_with s (left_of c.args.line.now)) (sym c.met.ensures) ∙ sym c.goes_on_with.ensures
    ∙ c.if-goes_on_with.false) (sym c.is_indented.ensures ∙ c.if-is_indented.false)
    ∙ ap shown (sym (laws.same_state (stack_of c.begin_block.new.self) _ c.begin_paragraph.new.self _ m.refs _
    c.in_ok-begin_block.ensures.stack c.in_ok-begin_paragraph.ensures refl
    ∙ ap (λ (t : State). record t { stack = block_begun t.stack; leaf = OpenParagraph (line_text (left_of c.args.line.now)) })
    c.in_ok-close_to-2.ensures.state))
