use Rattle.std.proofs.Common.{◌≡◌, ◌∙◌, ap, sym, chars, arith, take}
use Rattle.doc_rules.specs.Forests.{◌▹◌, node}
use Rattle.doc_rules.specs.Blocks.{Paragraph, Heading, IndentedCode, FencedCode, HtmlBlock, ThematicBreak, TableBlock, Task}
use Rattle.doc_rules.specs.Blocks.{BlockQuote, ListBlock, ListItem}
use Rattle.std.specs.Prelude.{option_map}
use Rattle.doc_blocks_starts.specs.Tables.{lines_in, source_of}
use Rattle.doc_blocks_starts.specs.Tags.{leaf_shown, container_shown}
use Rattle.doc_blocks.specs.Views.{behind, blocks_shown, forest}
use Rattle.doc_blocks.proofs.Forests.{behind_para, behind_heading, behind_code, behind_fence, behind_html, behind_break}
use Rattle.doc_blocks.proofs.Forests.{behind_table, behind_task, behind_quote, behind_list, behind_item}
use Rattle.doc_html.proofs.FlatteningSteps.{as_blocks, forest_begins, forest_goes_on}
use Rattle.doc_html.proofs.flattening.+blocks.Goals as goal

pub push_block-returns-in-Para : goal.push_block-returns-in-Para
unfolding leaf_shown
push_block-returns-in-Para t c = λ outer before is.
    let e : behind c.args.block.now before ≡ before ▹ Paragraph (chars c.get.result.now)
    = ap (λ b. behind b before) c.in-Para.is
    ∙ (behind_para c.in-Para.text before
    ∙ ap (λ x. before ▹ Paragraph (chars x)) (sym c.get.ensures)) in
    as_blocks c.push_leaf.result c.push_leaf.new.tags.items outer _ _ e (c.push_leaf.ensures outer before is)

pub push_block-returns-in-Heading : goal.push_block-returns-in-Heading
unfolding leaf_shown
push_block-returns-in-Heading t c = λ outer before is.
    let e : behind c.args.block.now before ≡ before ▹ Heading c.in-Heading.level (chars c.get-in-Heading.result.now)
    = ap (λ b. behind b before) c.in-Heading.is
    ∙ (behind_heading c.in-Heading.level c.in-Heading.text before
    ∙ ap (λ x. before ▹ Heading c.in-Heading.level (chars x)) (sym c.get-in-Heading.ensures)) in
    as_blocks c.push_leaf-in-Heading.result c.push_leaf-in-Heading.new.tags.items outer _ _ e
    (c.push_leaf-in-Heading.ensures outer before is)

pub push_block-returns-in-Code : goal.push_block-returns-in-Code
unfolding leaf_shown
push_block-returns-in-Code t c = λ outer before is.
    let e : behind c.args.block.now before ≡ before ▹ IndentedCode (chars c.get-in-Code.result.now)
    = ap (λ b. behind b before) c.in-Code.is
    ∙ (behind_code c.in-Code.text before
    ∙ ap (λ x. before ▹ IndentedCode (chars x)) (sym c.get-in-Code.ensures)) in
    as_blocks c.push_leaf-in-Code.result c.push_leaf-in-Code.new.tags.items outer _ _ e (c.push_leaf-in-Code.ensures outer before is)

pub push_block-returns-in-Fence : goal.push_block-returns-in-Fence
unfolding leaf_shown
push_block-returns-in-Fence t c = λ outer before is.
    let e : behind c.args.block.now before ≡ before ▹ FencedCode (chars c.get-in-Fence.result.now) (chars c.get-in-Fence-2.result.now)
    = ap (λ b. behind b before) c.in-Fence.is
    ∙ (behind_fence c.in-Fence.info c.in-Fence.text before
    ∙ (ap (λ x. before ▹ FencedCode (chars x) (chars c.in-Fence.text)) (sym c.get-in-Fence.ensures)
    ∙ ap (λ x. before ▹ FencedCode (chars c.get-in-Fence.result.now) (chars x)) (sym c.get-in-Fence-2.ensures))) in
    as_blocks c.push_leaf-in-Fence.result c.push_leaf-in-Fence.new.tags.items outer _ _ e (c.push_leaf-in-Fence.ensures outer before is)

pub push_block-returns-in-Html : goal.push_block-returns-in-Html
unfolding leaf_shown
push_block-returns-in-Html t c = λ outer before is.
    let e : behind c.args.block.now before ≡ before ▹ HtmlBlock (chars c.get-in-Html.result.now)
    = ap (λ b. behind b before) c.in-Html.is
    ∙ (behind_html c.in-Html.text before
    ∙ ap (λ x. before ▹ HtmlBlock (chars x)) (sym c.get-in-Html.ensures)) in
    as_blocks c.push_leaf-in-Html.result c.push_leaf-in-Html.new.tags.items outer _ _ e (c.push_leaf-in-Html.ensures outer before is)

pub push_block-returns-in-Break : goal.push_block-returns-in-Break
unfolding leaf_shown
push_block-returns-in-Break t c = λ outer before is.
    let e : behind c.args.block.now before ≡ before ▹ ThematicBreak
    = ap (λ b. behind b before) c.in-Break.is
    ∙ behind_break before in
    as_blocks c.push_leaf-in-Break.result c.push_leaf-in-Break.new.tags.items outer _ _ e (c.push_leaf-in-Break.ensures outer before is)

pub push_block-returns-in-Table : goal.push_block-returns-in-Table
push_block-returns-in-Table t c = λ outer before is.
    let e : behind c.args.block.now before
    ≡ before ▹ TableBlock (source_of (chars c.in-Table.header) (chars c.in-Table.delimiters) (lines_in (option_map chars c.in-Table.rows)))
    = ap (λ b. behind b before) c.in-Table.is
    ∙ behind_table c.in-Table.header c.in-Table.delimiters c.in-Table.rows before in
    as_blocks c.push_table.result c.push_table.new.tags.items outer _ _ e (c.push_table.ensures outer before is)

pub push_block-returns-in-Task : goal.push_block-returns-in-Task
unfolding leaf_shown
push_block-returns-in-Task t c = λ outer before is.
    let e : behind c.args.block.now before ≡ before ▹ Task c.in-Task.done (chars c.get-in-Task.result.now)
    = ap (λ b. behind b before) c.in-Task.is
    ∙ (behind_task c.in-Task.done c.in-Task.text before
    ∙ ap (λ x. before ▹ Task c.in-Task.done (chars x)) (sym c.get-in-Task.ensures)) in
    as_blocks c.push_leaf-in-Task.result c.push_leaf-in-Task.new.tags.items outer _ _ e (c.push_leaf-in-Task.ensures outer before is)

pub push_block-returns-in-Quote : goal.push_block-returns-in-Quote
unfolding container_shown
push_block-returns-in-Quote t c = λ outer before is.
    let e : behind c.args.block.now before ≡ node before BlockQuote (blocks_shown c.deref.result.now)
    = ap (λ b. behind b before) c.in-Quote.is
    ∙ (behind_quote c.in-Quote.inside before
    ∙ ap (λ x. node before BlockQuote (blocks_shown x)) (sym c.deref.ensures.value)) in
    as_blocks c.push_container.result c.push_container.new.tags.items outer _ _ e (c.push_container.ensures outer before is)

pub push_block-returns-in-List : goal.push_block-returns-in-List
unfolding container_shown
push_block-returns-in-List t c = λ outer before is.
    let e : behind c.args.block.now before
    ≡ node before (ListBlock c.in-List.start c.in-List.tight) (blocks_shown c.deref-in-List.result.now)
    = ap (λ b. behind b before) c.in-List.is
    ∙ (behind_list c.in-List.start c.in-List.tight c.in-List.items before
    ∙ ap (λ x. node before (ListBlock c.in-List.start c.in-List.tight) (blocks_shown x)) (sym c.deref-in-List.ensures.value)) in
    as_blocks c.push_container-in-List.result c.push_container-in-List.new.tags.items outer _ _ e
    (c.push_container-in-List.ensures outer before is)

pub push_block-returns-in-Item : goal.push_block-returns-in-Item
unfolding container_shown
push_block-returns-in-Item t c = λ outer before is.
    let e : behind c.args.block.now before ≡ node before ListItem (blocks_shown c.deref-in-Item.result.now)
    = ap (λ b. behind b before) c.in-Item.is
    ∙ (behind_item c.in-Item.inside before
    ∙ ap (λ x. node before ListItem (blocks_shown x)) (sym c.deref-in-Item.ensures.value)) in
    as_blocks c.push_container-in-Item.result c.push_container-in-Item.new.tags.items outer _ _ e
    (c.push_container-in-Item.ensures outer before is)

pub push_tags-loop-block-init : goal.push_tags-loop-block-init
push_tags-loop-block-init t c = λ outer before is. forest_begins outer before is

pub push_tags-loop-block-preserved : goal.push_tags-loop-block-preserved
push_tags-loop-block-preserved t c = λ outer before is.
    forest_goes_on outer c.args.blocks.now c.loop-block.block-index c.block-item.result before (omega arith) c.block-item.is
    (c.in_ok-push_block.ensures outer (forest (take c.loop-block.block-index c.args.blocks.now) before)
    (c.loop-block.invariant outer before is))
