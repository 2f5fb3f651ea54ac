-- The path that is open behind a tree of lines, and the definitions that have left it: the words in which one pass is proved.
use Rattle.std.proofs.Common.{◌≡◌, Bool, true, false, List, [], ◌∷◌, ◌++◌, refl, ap, ◌∙◌, Some, None, append_assoc, append-nil, Option}
use Rattle.std.specs.Prelude.{⊤, ◌&&◌, if◌then◌else◌}
use Rattle.doc_rules.specs.Tables.{has_table}
use Rattle.doc_rules.specs.Characters.{Text}
use Rattle.doc_rules.specs.Rules.{Rules}
use Rattle.doc_rules.specs.Definitions.{Definition}
use Rattle.doc_rules.specs.Forests.{none, ◌▹◌, node}
use Rattle.doc_rules.specs.Trees.{LeafLines, ParagraphLines, FencedLines, HtmlLines, BlankLine, ContainerLines, ItemLines, ListLines, Tree}
use Rattle.doc_rules.specs.Trees.{is_empty_tree, NoParagraph, LazyParagraph, open_paragraph, lazy_situation}
use Rattle.doc_rules.specs.Lists.{ends_blank}
use Rattle.doc_rules.specs.Blocks.{with_leaf, leaf_references, references_of}
use Rattle.doc_blocks_leaves.specs.Leaves.{OpenLeaf, NoLeaf, open_of, open_references}
use Rattle.doc_blocks_leaves.specs.Paths.{Level, OpenContainer, OpenQuote, OpenItem, Path, Here, Inside, empty_path, with_blocks}
use Rattle.doc_blocks_leaves.specs.Paths.{item_begun_at, paragraph_of, lazy_path_situation}
use Rattle.doc_blocks_leaves.specs.Closing.{closed, path_blank, path_references}
use Rattle.doc_blocks_leaves.specs.OpenBlocks.{Moved, level_for}

-- ---- the path of a tree

-- a leaf that stands at a level: open, or finished
abbrev pub leaf_at : Rules → Level → LeafLines → (blank : Bool) → OpenLeaf → Path
leaf_at rules level leaf blank NoLeaf = Here (with_blocks level (with_leaf rules leaf level.blocks)) NoLeaf blank
leaf_at rules level leaf blank start = Here level start blank

-- a leaf behind a path
unfoldable pub leaf_path : Rules → Path → LeafLines → Path
unfolding ends_blank
leaf_path rules path BlankLine = Here (closed rules path) NoLeaf true
leaf_path rules path leaf = leaf_at rules (level_for rules path) leaf (ends_blank (none ▹ leaf)) (open_of rules leaf)

-- the level at which a container stands behind a path
abbrev pub container_level : Rules → Path → ContainerLines → Level
container_level rules path (ItemLines kind start columns) = item_begun_at (closed rules path) (path_blank path) kind start
container_level rules path container = level_for rules path

-- the container as an open one
abbrev pub container_open : (is_empty : Bool) → ContainerLines → OpenContainer
container_open is_empty (ItemLines kind start columns) = OpenItem columns is_empty
container_open is_empty container = OpenQuote

-- the path of a tree
unfoldable pub path_of : Rules → Tree → Path
path_of rules none = empty_path
path_of rules (before ▹ leaf) = leaf_path rules (path_of rules before) leaf
path_of rules (node before container inside) = Inside (container_level rules (path_of rules before) container)
    (container_open (is_empty_tree inside) container) (path_of rules inside)

-- the definitions of a leaf that leave with it at once
abbrev pub closed_references : Rules → LeafLines → List Definition
closed_references rules (ParagraphLines text) = []
closed_references rules leaf = leaf_references rules leaf

-- the definitions of a tree that have left its path
unfoldable pub left_references : Rules → Tree → List Definition
left_references rules none = []
left_references rules (before ▹ leaf) = references_of rules before ++ closed_references rules leaf
left_references rules (node before container inside) = references_of rules before ++ left_references rules inside

abbrev pub moved : Path → List Definition → Moved
moved path refs = record { path = path; refs = refs }

-- both
abbrev pub moved_of : Rules → Tree → Moved
moved_of rules tree = moved (path_of rules tree) (left_references rules tree)

-- ---- trees that lines make

-- one line at least
abbrev pub HasLine : List Text → Type 0
HasLine [] = ⊥
HasLine (line ∷ more) = ⊤

-- an HTML block has a line
abbrev pub IsMadeLeaf : LeafLines → Type 0
IsMadeLeaf (HtmlLines goes_on kind lines) = HasLine lines
IsMadeLeaf leaf = ⊤

-- there are no lists yet
abbrev pub IsMade : Tree → Type 0
IsMade none = ⊤
IsMade (before ▹ leaf) = IsMade before × IsMadeLeaf leaf
IsMade (node before (ListLines kind start tight) inside) = ⊥
IsMade (node before container inside) = IsMade before × IsMade inside

-- ---- definitions

leaf_open_references : (rules : Rules) (path : Path) (leaf : LeafLines) (refs : List Definition) →
    (refs ++ closed_references rules leaf) ++ path_references rules (leaf_path rules path leaf) ≡ refs ++ leaf_references rules leaf
unfolding leaf_path path_references open_references open_of leaf_references
leaf_open_references rules path (ParagraphLines text) refs = ap (λ front. front ++ leaf_references rules (ParagraphLines text))
    (append-nil refs)
leaf_open_references rules path (FencedLines true fence info lines) refs = append-nil (refs ++ [])
leaf_open_references rules path (FencedLines false fence info lines) refs = append-nil (refs ++ [])
leaf_open_references rules path (HtmlLines true kind lines) refs = append-nil (refs ++ [])
leaf_open_references rules path (HtmlLines false kind lines) refs = append-nil (refs ++ [])
leaf_open_references rules path leaf refs = append-nil (refs ++ leaf_references rules leaf)

-- those that have left and those that are still open are all
pub all_references : (rules : Rules) (tree : Tree) → left_references rules tree ++ path_references rules (path_of rules tree)
    ≡ references_of rules tree
unfolding path_of left_references references_of path_references open_references
all_references rules none = refl
all_references rules (before ▹ leaf) = leaf_open_references rules (path_of rules before) leaf (references_of rules before)
all_references rules (node before container inside) =
    append_assoc (references_of rules before) (left_references rules inside) (path_references rules (path_of rules inside))
    ∙ ap (λ more. references_of rules before ++ more) (all_references rules inside)

-- ---- the open paragraph

leaf_paragraph : (rules : Rules) (path : Path) (before : Tree) (leaf : LeafLines)
    → paragraph_of (leaf_path rules path leaf) ≡ open_paragraph (before ▹ leaf)
unfolding leaf_path paragraph_of open_of open_paragraph
leaf_paragraph rules path before (FencedLines true fence info lines) = refl
leaf_paragraph rules path before (FencedLines false fence info lines) = refl
leaf_paragraph rules path before (HtmlLines true kind lines) = refl
leaf_paragraph rules path before (HtmlLines false kind lines) = refl
leaf_paragraph rules path before leaf = refl

same_paragraph : (rules : Rules) (tree : Tree) → paragraph_of (path_of rules tree) ≡ open_paragraph tree
unfolding path_of paragraph_of open_paragraph
same_paragraph rules none = refl
same_paragraph rules (before ▹ leaf) = leaf_paragraph rules (path_of rules before) before leaf
same_paragraph rules (node before container inside) = same_paragraph rules inside

pub same_situation : (rules : Rules) (tree : Tree) → lazy_path_situation rules (path_of rules tree) ≡ lazy_situation rules tree
unfolding lazy_path_situation lazy_situation
same_situation rules tree =
    ap (λ (text : Option Text). elim text
    [ Some t ↦ if rules.tables && has_table t then NoParagraph else LazyParagraph | None ↦ NoParagraph ]) (same_paragraph rules tree)
