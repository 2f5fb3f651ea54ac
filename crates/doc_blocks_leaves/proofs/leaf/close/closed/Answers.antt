use Rattle.std.proofs.Common.{◌≡◌, subst, ◌∙◌}
use Rattle.std.specs.Prelude.{IfOk, OnOk}
use Rattle.doc_rules.specs.Characters.{Text}
use Rattle.doc_rules.specs.Blocks.{Blocks}
use Rattle.doc_refs_parts.specs.Targets.{targets_of, joined}
use Rattle.doc_blocks_leaves.specs.Leaves.{OpenParagraph, with_open, open_references}
use Rattle.doc_blocks_leaves.specs.OpenLeaves.{leaf_shown}
use Rattle.doc_blocks_leaves.specs.Views.{with_block, with_closed}
use Rattle.doc_blocks_leaves.proofs.LeafSteps.{code_closed, fence_closed, html_closed, none_join}
use Rattle.doc_blocks_leaves.proofs.leaf.close.closed.Goals as goal

pub returns-in-Nothing-clause-blocks : goal.returns-in-Nothing-clause-blocks
unfolding leaf_shown with_open with_block
returns-in-Nothing-clause-blocks c = rw c.in-Nothing.is (λ before. c.of.ensures before)

pub returns-in-Nothing-clause-refs : goal.returns-in-Nothing-clause-refs
unfolding leaf_shown open_references
returns-in-Nothing-clause-refs c = rw c.in-Nothing.is (none_join c.args.refs.now)

pub returns-in-Paragraph-clause-blocks : goal.returns-in-Paragraph-clause-blocks
unfolding leaf_shown
returns-in-Paragraph-clause-blocks c = rw c.in-Paragraph.is
    (subst (λ (t : Text). IfOk c.paragraph_blocks.result (λ blocks. (before : Blocks)
    → with_closed blocks before ≡ with_open c.args.entities.now (OpenParagraph t) before)) c.all.ensures c.paragraph_blocks.ensures.blocks)

pub returns-in-Paragraph-clause-refs : goal.returns-in-Paragraph-clause-refs
unfolding leaf_shown
returns-in-Paragraph-clause-refs c = rw c.in-Paragraph.is
    (subst (λ (t : Text). OnOk c.paragraph_blocks.result
    (c.paragraph_blocks.new.refs ≡ joined c.args.refs.now (targets_of (open_references c.args.entities.now (OpenParagraph t)))))
    c.all.ensures c.paragraph_blocks.ensures.refs)

pub returns-in_ok-keep-in-Code-clause-blocks : goal.returns-in_ok-keep-in-Code-clause-blocks
unfolding leaf_shown
returns-in_ok-keep-in-Code-clause-blocks c =
    rw c.in-Code.is (λ before. c.of-in-Code.ensures before ∙ code_closed c.args.entities.now c.args.lines.now.all c.args.lines.now.kept c.in_ok-keep-in-Code.field-0
    c.kept.result before c.in_ok-keep-in-Code.ensures c.kept.ensures)

pub returns-in_ok-keep-in-Code-clause-refs : goal.returns-in_ok-keep-in-Code-clause-refs
unfolding leaf_shown open_references
returns-in_ok-keep-in-Code-clause-refs c = rw c.in-Code.is (none_join c.args.refs.now)

pub returns-in_ok-keep-in-Fenced-2-clause-blocks : goal.returns-in_ok-keep-in-Fenced-2-clause-blocks
unfolding leaf_shown
returns-in_ok-keep-in-Fenced-2-clause-blocks c =
    rw c.in-Fenced.is (λ before. c.of-in-Fenced.ensures before ∙ fence_closed c.args.entities.now _ c.in-Fenced.info c.args.lines.now.all c.in_ok-keep-in-Fenced.field-0
    c.in_ok-keep-in-Fenced-2.field-0 c.all-in-Fenced.result before (c.in_ok-keep-in-Fenced.ensures ∙ c.get.ensures)
    c.in_ok-keep-in-Fenced-2.ensures c.all-in-Fenced.ensures)

pub returns-in_ok-keep-in-Fenced-2-clause-refs : goal.returns-in_ok-keep-in-Fenced-2-clause-refs
unfolding leaf_shown open_references
returns-in_ok-keep-in-Fenced-2-clause-refs c = rw c.in-Fenced.is (none_join c.args.refs.now)

pub returns-in_ok-keep-in-Html-clause-blocks : goal.returns-in_ok-keep-in-Html-clause-blocks
unfolding leaf_shown
returns-in_ok-keep-in-Html-clause-blocks c =
    rw c.in-Html.is (λ before. c.of-in-Html.ensures before ∙ html_closed c.args.entities.now _ c.args.lines.now.all c.args.lines.now.kept c.in_ok-keep-in-Html.field-0
    c.kept-in-Html.result before c.in_ok-keep-in-Html.ensures c.kept-in-Html.ensures)

pub returns-in_ok-keep-in-Html-clause-refs : goal.returns-in_ok-keep-in-Html-clause-refs
unfolding leaf_shown open_references
returns-in_ok-keep-in-Html-clause-refs c = rw c.in-Html.is (none_join c.args.refs.now)
