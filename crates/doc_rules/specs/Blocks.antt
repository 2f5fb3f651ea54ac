-- The blocks of a document (CommonMark 0.31.2, sections 4 and 5): definitions and blank lines leave the tree of lines.
use Rattle.std.specs.Prelude.{ℕ, Bool, true, false, List, [], ◌∷◌, ◌++◌, flat_map, Option, Some, None, option_map}
use Rattle.doc_rules.specs.Characters.{Text, is_space_or_tab, is_blank_text, strip_end}
use Rattle.doc_rules.specs.Rules.{Rules}
use Rattle.doc_rules.specs.Escapes.{unescape}
use Rattle.doc_rules.specs.Definitions.{Definition, definitions_of}
use Rattle.doc_rules.specs.ContainerStarts.{ListKind, Bullet, Ordered}
use Rattle.doc_rules.specs.Tables.{TableSource, table_in, text_lines}
use Rattle.doc_rules.specs.Tasks.{task_in}
use Rattle.doc_rules.specs.Forests.{Forest, none, ◌▹◌, node}
use Rattle.doc_rules.specs.Trees.{LeafLines, ParagraphLines, AtxLine, SetextLines, IndentedLines, FencedLines, HtmlLines, BreakLine}
use Rattle.doc_rules.specs.Trees.{BlankLine, ContainerLines, QuoteLines, ItemLines, ListLines, Tree, tree_within}
use Rattle.doc_rules.specs.Lists.{listed}

-- the lines of code end in LF each, other lines are joined by it; the info string's escapes and references are read. A task is the
-- first paragraph of its item, without the marker
pub data Leaf : Type 0 where
  Paragraph : Text → Leaf
  Heading : (level : ℕ) → Text → Leaf
  IndentedCode : Text → Leaf
  FencedCode : (info text : Text) → Leaf
  HtmlBlock : Text → Leaf
  ThematicBreak : Leaf
  TableBlock : TableSource → Leaf
  Task : (done : Bool) → Text → Leaf

-- a list of bullets has no start
pub data Container : Type 0 where
  BlockQuote : Container
  ListBlock : (start : Option ℕ) → (tight : Bool) → Container
  ListItem : Container

-- blocks in a row
abbrev pub Blocks : Type 0
Blocks = Forest Leaf Container

-- the blocks, and the definitions of the whole document in their order
pub record Document : Type 0 where
  pub blocks : Blocks
  pub refs : List Definition

-- ---- lines

-- each line with a LF behind it
unfoldable pub ended : List Text → Text
ended = flat_map (λ line. line ++ 10 ∷ [])

-- lines with a LF between them
unfoldable pub joined : List Text → Text
joined [] = []
joined (line ∷ []) = line
joined (line ∷ next ∷ more) = line ++ 10 ∷ joined (next ∷ more)

-- the lines without blank ones at the end (4.4; for HTML blocks this project's choice)
unfoldable pub without_last_blanks : List Text → List Text
without_last_blanks [] = []
without_last_blanks (line ∷ more) =
    elim (without_last_blanks more) [
      | [] ↦ elim (is_blank_text line) [ true ↦ [] | false ↦ line ∷ [] ]
      | next ∷ rest ↦ line ∷ next ∷ rest
    ]

-- ---- blocks

-- the leaf over what definitions leave of a paragraph's text, where they leave any; spaces and tabs at its end go (4.7, 4.8)
unfoldable pub with_text : (Text → Leaf) → Text → Blocks → Blocks
with_text leaf [] before = before
with_text leaf (c ∷ rest) before = before ▹ leaf (strip_end is_space_or_tab (c ∷ rest))

-- ---- tables in paragraphs (GFM 4.10)

-- where tables are read, the text before the table in a paragraph's text, and that table
unfoldable pub table_of : Rules → Text → Option (Text × TableSource)
table_of rules text = elim rules.tables
    [ true ↦ option_map (λ found. (joined found.0, found.1)) (table_in (text_lines text)) | false ↦ None ]

-- the text of a paragraph that stands before the table in it, or all of it where there is none
abbrev pub before_table : Text → Option (Text × TableSource) → Text
before_table text None = text
before_table text (Some found) = found.0

-- these blocks, and the table behind them where there is one
abbrev pub with_table : Option (Text × TableSource) → Blocks → Blocks
with_table None before = before
with_table (Some found) before = before ▹ TableBlock found.1

-- the text of a paragraph without the table in it
abbrev pub paragraph_of : Rules → Text → Text
paragraph_of rules text = before_table text (table_of rules text)

-- ---- leaves

-- these blocks and a leaf of the tree behind them; definitions leave the front of what stands before a table
unfoldable pub with_leaf : Rules → LeafLines → Blocks → Blocks
with_leaf rules (ParagraphLines text) before =
    with_table (table_of rules text) (with_text Paragraph (definitions_of rules (paragraph_of rules text)).1 before)
with_leaf rules (AtxLine level text) before = before ▹ Heading level text
with_leaf rules (SetextLines level text) before = with_text (Heading level) (definitions_of rules text).1 before
with_leaf rules (IndentedLines lines) before = before ▹ IndentedCode (ended (without_last_blanks lines))
with_leaf rules (FencedLines goes_on fence info lines) before = before ▹ FencedCode (unescape rules info) (ended lines)
with_leaf rules (HtmlLines goes_on kind lines) before = before ▹ HtmlBlock (joined (without_last_blanks lines))
with_leaf rules BreakLine before = before ▹ ThematicBreak
with_leaf rules BlankLine before = before

-- the first number of a list, where it has numbers (5.3)
unfoldable pub list_start : ListKind → ℕ → Option ℕ
list_start (Bullet c) start = None
list_start (Ordered c) start = Some start

-- what a container of the tree is in the document
unfoldable pub container_of : ContainerLines → Container
container_of QuoteLines = BlockQuote
container_of (ItemLines kind start columns) = ListItem
container_of (ListLines kind start tight) = ListBlock (list_start kind start) tight

-- the blocks of a tree whose items are in lists
unfoldable pub blocks_of : Rules → Tree → Blocks
blocks_of rules none = none
blocks_of rules (before ▹ leaf) = with_leaf rules leaf (blocks_of rules before)
blocks_of rules (node before container inside) = node (blocks_of rules before) (container_of container) (blocks_of rules inside)

-- ---- definitions

-- those at the front of a paragraph, before the table in it, also of one that became a heading (4.7)
unfoldable pub leaf_references : Rules → LeafLines → List Definition
leaf_references rules (ParagraphLines text) = (definitions_of rules (paragraph_of rules text)).0
leaf_references rules (SetextLines level text) = (definitions_of rules text).0
leaf_references rules leaf = []

-- those of a tree, in the order of the text
unfoldable pub references_of : Rules → Tree → List Definition
references_of rules none = []
references_of rules (before ▹ leaf) = references_of rules before ++ leaf_references rules leaf
references_of rules (node before container inside) = references_of rules before ++ references_of rules inside

-- ---- tasks (GFM 5.3)

-- a paragraph with the marker of a task at its front is that task
unfoldable pub task_of : Text → Option (Bool × Text) → Leaf
task_of text None = Paragraph text
task_of text (Some found) = Task found.0 found.1

-- a leaf at the front of an item
unfoldable pub first_leaf : Leaf → Leaf
first_leaf (Paragraph text) = task_of text (task_in text)
first_leaf leaf = leaf

-- the blocks of an item, the first of which may be a task
unfoldable pub item_blocks : Blocks → Blocks
item_blocks none = none
item_blocks (none ▹ leaf) = none ▹ first_leaf leaf
item_blocks (before ▹ leaf) = item_blocks before ▹ leaf
item_blocks (node before container inside) = node (item_blocks before) container inside

-- blocks with the tasks of all items in them
unfoldable pub with_tasks : Blocks → Blocks
with_tasks none = none
with_tasks (before ▹ leaf) = with_tasks before ▹ leaf
with_tasks (node before ListItem inside) = node (with_tasks before) ListItem (item_blocks (with_tasks inside))
with_tasks (node before container inside) = node (with_tasks before) container (with_tasks inside)

-- the same, where tasks are read
unfoldable pub tasks_read : Rules → Blocks → Blocks
tasks_read rules blocks = elim rules.tasks [ true ↦ with_tasks blocks | false ↦ blocks ]

-- ---- documents

-- the document of a tree whose items are in lists
unfoldable pub tree_document : Rules → Tree → Document
tree_document rules tree = record { blocks = tasks_read rules (blocks_of rules tree); refs = references_of rules tree }

-- the document of a text in which so many quotes and items may be open at once
abbrev pub document_within : ℕ → Rules → Text → Document
document_within room rules text = tree_document rules (listed (tree_within room rules text))

-- the document of a text: at most 100 quotes and items are open at once (this project's choice)
unfoldable pub document_of : Rules → Text → Document
document_of = document_within 100
