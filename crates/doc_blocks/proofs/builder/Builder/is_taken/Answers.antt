use Rattle.std.proofs.Common.{◌∙◌, refl}
use Rattle.std.proofs.Common.{ap, sym}
use Rattle.doc_lines.specs.Cursors.{left_of}
use Rattle.doc_blocks.specs.StateSteps.{shown}
use Rattle.doc_blocks.specs.BuilderSteps.{state_of}
use Rattle.doc_blocks.specs.LevelSteps.{stack_of}
use Rattle.doc_blocks.proofs.LeafLaws as leaves
use Rattle.doc_blocks.proofs.BuilderLaws as laws
use Rattle.doc_blocks_leaves.specs.OpenLeaves.{taken_shown}
use Rattle.doc_blocks_leaves.specs.declared.leaf.take.LineTaken.{LineTaken}
use Rattle.doc_blocks.proofs.builder.Builder.is_taken.Goals as goal

pub returns-in-GoesOn-clause-yes : goal.returns-in-GoesOn-clause-yes
returns-in-GoesOn-clause-yes c =
    let s = state_of c.args.self.now in
    let leaf = c.take.new.self in
    let f = sym c.in_ok-take.ensures.taken ∙ ap (λ (a : LineTaken). taken_shown a leaf) c.in-GoesOn.is in
    λ _ room depth nothing.
    leaves.taken_goes room c.args.entities.now depth s (left_of c.args.line.now) leaf c.in-GoesOn.blank nothing f
    ∙ ap shown (sym (laws.same_state (stack_of c.set_blank.new.self) _ leaf _ s.refs _ c.set_blank.ensures.stack refl refl))

pub returns-in_ok-close_leaf-in-Closes-clause-yes : goal.returns-in_ok-close_leaf-in-Closes-clause-yes
returns-in_ok-close_leaf-in-Closes-clause-yes c =
    let s = state_of c.args.self.now in
    let leaf = c.take.new.self in
    let t = state_of c.close_leaf.new.self in
    let f = sym c.in_ok-take.ensures.taken ∙ ap (λ (a : LineTaken). taken_shown a leaf) c.in-Closes.is in
    λ _ room depth nothing.
    leaves.taken_closes room c.args.entities.now depth s t (left_of c.args.line.now) leaf c.in-Closes.blank nothing f
    c.in_ok-close_leaf-in-Closes.ensures.state
    ∙ ap shown (sym (laws.same_state (stack_of c.set_blank-in-Closes.new.self) _ t.leaf _ t.refs _ c.set_blank-in-Closes.ensures.stack refl
    refl))
