-- One pass over the lines gives the document: line by line the path is that of the tree, and in the end it becomes the tree's document.
use Rattle.std.proofs.Common.{◌≡◌, ℕ, List, [], ◌∷◌, refl, ap, ◌∙◌}
use Rattle.doc_rules.specs.Characters.{Text}
use Rattle.doc_rules.specs.Lines.{lines_of, line_content}
use Rattle.doc_rules.specs.Columns.{cells_of}
use Rattle.doc_rules.specs.Rules.{Rules}
use Rattle.doc_rules.specs.Forests.{none}
use Rattle.doc_rules.specs.Trees.{Tree, add_line, add_lines}
use Rattle.doc_blocks_leaves.specs.OpenBlocks.{line_steps, path_document, one_pass}
use Rattle.doc_blocks_leaves.specs.Laws.{OnePassSuffices}
use Rattle.doc_blocks_leaves.proofs.TreePaths.{path_of, left_references, moved_of, IsMade}
use Rattle.doc_blocks_leaves.proofs.LineLaws.{line_adds}
use Rattle.doc_blocks_leaves.proofs.ClosingLaws.{path_gives_document}

lines_made : (room : ℕ) (rules : Rules) (lines : List Text) (tree : Tree) → IsMade tree → IsMade (add_lines room rules lines tree)
unfolding add_lines
lines_made room rules [] tree h = h
lines_made room rules (line ∷ more) tree h =
    lines_made room rules more (add_line room rules (cells_of (line_content line)) tree)
    (line_adds room rules (cells_of (line_content line)) tree h).1

lines_moved : (room : ℕ) (rules : Rules) (lines : List Text) (tree : Tree) → IsMade tree
    → line_steps room rules lines (moved_of rules tree) ≡ moved_of rules (add_lines room rules lines tree)
unfolding add_lines line_steps
lines_moved room rules [] tree h = refl
lines_moved room rules (line ∷ more) tree h =
    ap (line_steps room rules more) (line_adds room rules (cells_of (line_content line)) tree h).0
    ∙ lines_moved room rules more (add_line room rules (cells_of (line_content line)) tree)
    (line_adds room rules (cells_of (line_content line)) tree h).1

pub one_pass_suffices : OnePassSuffices
unfolding one_pass path_of left_references
one_pass_suffices room rules text =
    ap (path_document rules) (lines_moved room rules (lines_of text) none tt)
    ∙ path_gives_document rules (add_lines room rules (lines_of text) none) (lines_made room rules (lines_of text) none tt)
