use Rattle.std.proofs.Common.{◌≡◌, ◌++◌, refl, ap, ◌∙◌}
use Rattle.doc_rules.specs.Columns.{text_of}
use Rattle.doc_lines.specs.Cursors.{left_of}
use Rattle.doc_blocks_leaves.specs.Leaves.{open_of}
use Rattle.doc_blocks_starts.specs.HtmlKinds.{kind_of}
use Rattle.doc_blocks_leaves.specs.OpenLeaves.{leaf_shown, with_begun}
use Rattle.doc_blocks_leaves.specs.Views.{with_block}
use Rattle.doc_blocks_leaves.proofs.LeafSteps.{html_opened, html_begun, first_kept}
use Rattle.doc_blocks_leaves.proofs.leaf.OpenLeaf.begin_html.Goals as goal

pub returns-then-goes_on-clause-leaf : goal.returns-then-goes_on-clause-leaf
unfolding leaf_shown
returns-then-goes_on-clause-leaf c = λ rules.
    let line = left_of c.args.line.now in
    let all : c.add_rest.new.self.all ≡ text_of line = c.in_ok-add_rest.ensures.all ∙ ap (λ xs. xs ++ text_of line) c.clear.ensures.all in
    let kept = first_kept line c.is_blank_line.result c.add_rest.new.self.kept c.add_rest.new.self.all c.keep.new.self.kept
    c.is_blank_line.ensures (c.add_rest.ensures.kept ∙ c.clear.ensures.kept) all c.keep.ensures.kept in
    rw c.if-goes_on.true (html_opened rules (kind_of c.args.kind) line c.keep.new.self.all c.keep.new.self.kept (c.keep.ensures.all
    ∙ all) kept)

pub returns-then-goes_on-clause-block : goal.returns-then-goes_on-clause-block
unfolding with_block with_begun open_of
returns-then-goes_on-clause-block c = λ rules before. rw c.if-goes_on.true refl

pub returns-clause-leaf : goal.returns-clause-leaf
unfolding leaf_shown open_of
returns-clause-leaf c = λ rules. rw c.if-goes_on.false refl

pub returns-clause-block : goal.returns-clause-block
returns-clause-block c = λ rules before.
    let line = left_of c.args.line.now in
    let all : c.add_rest.new.self.all ≡ text_of line = c.in_ok-add_rest.ensures.all ∙ ap (λ xs. xs ++ text_of line) c.clear.ensures.all in
    let kept = first_kept line c.is_blank_line.result c.add_rest.new.self.kept c.add_rest.new.self.all c.keep.new.self.kept
    c.is_blank_line.ensures (c.add_rest.ensures.kept ∙ c.clear.ensures.kept) all c.keep.ensures.kept in
    rw c.if-goes_on.false (html_begun rules (kind_of c.args.kind) line c.keep.new.self.kept c.in_ok-keep.field-0 c.kept.result
    before c.in_ok-keep.ensures c.kept.ensures kept)
