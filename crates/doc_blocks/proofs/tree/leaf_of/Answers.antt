use Rattle.std.proofs.Common.{◌∙◌, ap, sym, chars, List, ℕ}
use Rattle.doc_rules.specs.Forests.{◌▹◌}
use Rattle.doc_rules.specs.Blocks.{Paragraph, Heading, IndentedCode, FencedCode, HtmlBlock, TableBlock, Task}
use Rattle.std.specs.Prelude.{Option, option_map}
use Rattle.doc_blocks_starts.specs.Tables.{lines_in, source_of}
use Rattle.doc_blocks_starts.specs.Tags.{leaf_shown}
use Rattle.doc_blocks_starts.specs.declared.tag.LeafBlock.{LeafBlock}
use Rattle.doc_blocks.proofs.Forests.{behind_para, behind_heading, behind_code, behind_fence, behind_html, behind_break}
use Rattle.doc_blocks.proofs.Forests.{behind_table, behind_task}
use Rattle.doc_blocks.proofs.tree.leaf_of.Goals as goal

pub returns-in_ok-copy_of-in-Para : goal.returns-in_ok-copy_of-in-Para
unfolding leaf_shown
returns-in_ok-copy_of-in-Para c = λ before. behind_para c.in_ok-copy_of-in-Para.field-0 before
    ∙ (ap (λ (t : List ℕ). before ▹ Paragraph (chars t)) c.in_ok-copy_of-in-Para.ensures
    ∙ sym (ap (λ (l : LeafBlock). before ▹ leaf_shown l) c.in-Para.is))

pub returns-in_ok-copy_of-in-Heading : goal.returns-in_ok-copy_of-in-Heading
unfolding leaf_shown
returns-in_ok-copy_of-in-Heading c = λ before. behind_heading c.in-Heading.level c.in_ok-copy_of-in-Heading.field-0 before
    ∙ (ap (λ (t : List ℕ). before ▹ Heading c.in-Heading.level (chars t)) c.in_ok-copy_of-in-Heading.ensures
    ∙ sym (ap (λ (l : LeafBlock). before ▹ leaf_shown l) c.in-Heading.is))

pub returns-in_ok-copy_of-in-Code : goal.returns-in_ok-copy_of-in-Code
unfolding leaf_shown
returns-in_ok-copy_of-in-Code c = λ before. behind_code c.in_ok-copy_of-in-Code.field-0 before
    ∙ (ap (λ (t : List ℕ). before ▹ IndentedCode (chars t)) c.in_ok-copy_of-in-Code.ensures
    ∙ sym (ap (λ (l : LeafBlock). before ▹ leaf_shown l) c.in-Code.is))

pub returns-in_ok-copy_of-in-Fence-2 : goal.returns-in_ok-copy_of-in-Fence-2
unfolding leaf_shown
returns-in_ok-copy_of-in-Fence-2 c =
    let info = c.in_ok-copy_of-in-Fence.field-0 in
    let text = c.in_ok-copy_of-in-Fence-2.field-0 in
    λ before. behind_fence info text before
    ∙ (ap (λ (t : List ℕ). before ▹ FencedCode (chars t) (chars text)) c.in_ok-copy_of-in-Fence.ensures
    ∙ (ap (λ (t : List ℕ). before ▹ FencedCode (chars c.in-Fence.info.now) (chars t)) c.in_ok-copy_of-in-Fence-2.ensures
    ∙ sym (ap (λ (l : LeafBlock). before ▹ leaf_shown l) c.in-Fence.is)))

pub returns-in_ok-copy_of-in-Html : goal.returns-in_ok-copy_of-in-Html
unfolding leaf_shown
returns-in_ok-copy_of-in-Html c = λ before. behind_html c.in_ok-copy_of-in-Html.field-0 before
    ∙ (ap (λ (t : List ℕ). before ▹ HtmlBlock (chars t)) c.in_ok-copy_of-in-Html.ensures
    ∙ sym (ap (λ (l : LeafBlock). before ▹ leaf_shown l) c.in-Html.is))

pub returns-in-Break : goal.returns-in-Break
unfolding leaf_shown
returns-in-Break c = λ before. behind_break before ∙ sym (ap (λ (l : LeafBlock). before ▹ leaf_shown l) c.in-Break.is)

pub returns-in_ok-rows_of-in-Table : goal.returns-in_ok-rows_of-in-Table
unfolding leaf_shown
returns-in_ok-rows_of-in-Table c =
    let header = c.in_ok-copy_of-in-Table.field-0 in
    let delimiters = c.in_ok-copy_of-in-Table-2.field-0 in
    let rows = c.in_ok-rows_of-in-Table.field-0 in
    let lines = c.in-Table.lines.now in
    λ before. behind_table header delimiters rows before
    ∙ (ap (λ (t : List ℕ). before ▹ TableBlock (source_of (chars t) (chars delimiters) (lines_in (option_map chars rows))))
    c.in_ok-copy_of-in-Table.ensures
    ∙ (ap (λ (t : List ℕ). before ▹ TableBlock (source_of (chars lines.header.now) (chars t) (lines_in (option_map chars rows))))
    c.in_ok-copy_of-in-Table-2.ensures
    ∙ (ap (λ (t : Option (List ℕ)). before
    ▹ TableBlock (source_of (chars lines.header.now) (chars lines.delimiters.now) (lines_in t))) c.in_ok-rows_of-in-Table.ensures
    ∙ sym (ap (λ (l : LeafBlock). before ▹ leaf_shown l) c.in-Table.is))))

pub returns-in_ok-copy_of-in-Task : goal.returns-in_ok-copy_of-in-Task
unfolding leaf_shown
returns-in_ok-copy_of-in-Task c = λ before. behind_task c.in-Task.done c.in_ok-copy_of-in-Task.field-0 before
    ∙ (ap (λ (t : List ℕ). before ▹ Task c.in-Task.done (chars t)) c.in_ok-copy_of-in-Task.ensures
    ∙ sym (ap (λ (l : LeafBlock). before ▹ leaf_shown l) c.in-Task.is))
