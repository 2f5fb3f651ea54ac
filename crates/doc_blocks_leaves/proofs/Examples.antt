-- Examples: one pass gives the document (CommonMark 0.31.2, sections 4 and 5).
use Rattle.std.proofs.Common.{◌≡◌, refl, codes, List, ℕ}
use Rattle.doc_rules.proofs.Computing.{block_words}
use Rattle.doc_rules.specs.Rules.{built_in_rules}
use Rattle.doc_rules.specs.Blocks.{document_of}
use Rattle.doc_blocks_leaves.specs.Leaves.{open_of, taken, with_open, open_references}
use Rattle.doc_blocks_leaves.specs.Paths.{matched_open, paragraph_of, lazy_path_situation, finished_list, item_begun_in}
use Rattle.doc_blocks_leaves.specs.Closing.{leaf_closed, item_closed, container_closed, closed, path_blank, path_references}
use Rattle.doc_blocks_leaves.specs.OpenBlocks.{leaf_put, underlined_path, leaf_begun, paragraph_continued, goes_on_with, text_put}
use Rattle.doc_blocks_leaves.specs.OpenBlocks.{leaf_step, item_first}
use Rattle.doc_blocks_leaves.specs.OpenBlocks.{item_step, leaf_or_item_step, start_step, leaf_takes, line_step, line_steps, path_document}
use Rattle.doc_blocks_leaves.specs.OpenBlocks.{one_pass}

-- read in one pass, the text is its document
abbrev Agrees : List ℕ → Type 0
Agrees text = one_pass 100 built_in_rules text ≡ document_of built_in_rules text

lists_quotes_and_leaves :
    Agrees (codes "- ___\n\n  b\n") ×
    Agrees (codes "-\n  \n  foo\n- b\n") ×
    Agrees (codes "- ```\n       \n  ```\n- x\n") ×
    Agrees (codes "[foo]: /url\n---\n") ×
    Agrees (codes "- a\n- b\n\n\n- c\n* d\n\n  e\n") ×
    Agrees (codes "> - a\n>\n> - b\nlazy\n") ×
    Agrees (codes "<div>\n\n<!-- a\n\nb -->\n- <?\n\n- x\n") ×
    Agrees (codes "1. a\n\n       b\n\n2. c\n   ===\n") ×
    Agrees (codes "> > a\nb\n> ===\n")
unfolding block_words open_of taken with_open open_references matched_open paragraph_of lazy_path_situation finished_list item_begun_in
    leaf_closed item_closed container_closed closed path_blank path_references leaf_put underlined_path leaf_begun paragraph_continued
    goes_on_with text_put leaf_step item_first item_step leaf_or_item_step start_step leaf_takes line_step line_steps path_document one_pass
lists_quotes_and_leaves = (refl, refl, refl, refl, refl, refl, refl, refl, refl)
