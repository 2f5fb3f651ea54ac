-- The open leaf of the code, seen as that of one pass over the lines, and what is asked of it.
use Rattle.std.specs.Prelude.{ℕ, Bool, true, false, List, [], ◌∷◌, ◌++◌, ◌≡◌, chars, Option, Some, None, IfSome}
use Rattle.doc_rules.specs.Characters.{Text}
use Rattle.doc_rules.specs.Columns.{Line}
use Rattle.doc_rules.specs.Rules.{Rules}
use Rattle.doc_rules.specs.Forests.{◌▹◌}
use Rattle.doc_rules.specs.Trees.{LeafLines, line_text}
use Rattle.doc_rules.specs.Definitions.{Definition, definitions_of}
use Rattle.doc_rules.specs.Tables.{has_table}
use Rattle.doc_rules.specs.Blocks.{Leaf, Heading, Blocks, with_leaf, with_text}
use Rattle.doc_blocks_leaves.specs.Leaves as specs
use Rattle.doc_blocks_starts.specs.Fences.{fence_shown}
use Rattle.doc_blocks_starts.specs.HtmlKinds.{kind_of}
use Rattle.doc_blocks_leaves.specs.declared.leaf.kind.Kind.{Kind}
use Rattle.doc_blocks_leaves.specs.declared.leaf.kind.Kind.TheVariants as kinds
use Rattle.doc_blocks_leaves.specs.declared.leaf.take.LineTaken.{LineTaken}
use Rattle.doc_blocks_leaves.specs.declared.leaf.take.LineTaken.TheVariants.{No, GoesOn, Closes}

-- the lines of a leaf, joined or each with its ending, and those before the last blank ones
pub record Gathering : Type 0 where
  pub all : Text
  pub kept : Text

-- the lines before the last blank ones when one more is there, which is blank or isn't
abbrev pub kept_by : Bool → Gathering → Text
kept_by blank lines = elim blank [ true ↦ lines.kept | false ↦ lines.all ]

-- an open leaf of this kind with these lines
unfoldable pub leaf_shown : Kind → Gathering → specs.OpenLeaf
leaf_shown kinds.Nothing lines = specs.NoLeaf
leaf_shown (kinds.Paragraph table) lines = specs.OpenParagraph lines.all
leaf_shown kinds.Code lines = specs.OpenCode lines.all lines.kept
leaf_shown (kinds.Fenced fence info) lines = specs.OpenFence (fence_shown fence) (chars info) lines.all
leaf_shown (kinds.Html kind) lines = specs.OpenHtml (kind_of kind) lines.all lines.kept

-- of a paragraph the kind says whether a table is in it, where it says anything of that
abbrev pub IsTold : Kind → Gathering → Type 0
IsTold (kinds.Paragraph table) lines = IfSome table (λ holds. holds ≡ has_table lines.all)
IsTold kind lines = Unit {0}

-- the leaf is a paragraph with a table in it
unfoldable pub holds_table : specs.OpenLeaf → Bool
holds_table (specs.OpenParagraph text) = has_table text
holds_table leaf = false

-- the text of the leaf, where it is a paragraph
unfoldable pub paragraph_text : specs.OpenLeaf → Option Text
paragraph_text (specs.OpenParagraph text) = Some text
paragraph_text leaf = None

-- there is an open leaf
unfoldable pub is_open : specs.OpenLeaf → Bool
is_open specs.NoLeaf = false
is_open leaf = true

-- what the leaf did with a line, which is this leaf now
abbrev pub taken_shown : LineTaken → specs.OpenLeaf → specs.Taken
taken_shown No leaf = specs.NotTaken
taken_shown (GoesOn blank) leaf = specs.GoesOn leaf blank
taken_shown (Closes blank) leaf = specs.Closes leaf blank

-- an open paragraph with which this line goes on (4.8)
unfoldable pub leaf_continued : Line → specs.OpenLeaf → specs.OpenLeaf
leaf_continued line (specs.OpenParagraph text) = specs.OpenParagraph (text ++ 10 ∷ line_text line)
leaf_continued line leaf = leaf

-- these blocks and a leaf of this text behind them, where there is a text
unfoldable pub with_leaf_of : (Text → Leaf) → Option Text → Blocks → Blocks
with_leaf_of leaf None before = before
with_leaf_of leaf (Some text) before = before ▹ leaf text

-- these blocks when a leaf has begun behind them: it is one of them where it is no open leaf
unfoldable pub with_begun : Rules → LeafLines → specs.OpenLeaf → Blocks → Blocks
with_begun rules leaf specs.NoLeaf before = with_leaf rules leaf before
with_begun rules leaf other before = before

-- ---- an underline (4.3)

-- the leaf behind an underline: a paragraph has become a heading
unfoldable pub underlined : specs.OpenLeaf → specs.OpenLeaf
underlined (specs.OpenParagraph text) = specs.NoLeaf
underlined leaf = leaf

-- these blocks and behind them the heading that an open paragraph becomes, where definitions leave any text
unfoldable pub with_underlined : Rules → ℕ → specs.OpenLeaf → Blocks → Blocks
with_underlined rules level (specs.OpenParagraph text) before = with_text (Heading level) (definitions_of rules text).1 before
with_underlined rules level leaf before = before

-- the definitions that leave an open paragraph when it becomes one
unfoldable pub underlined_references : Rules → specs.OpenLeaf → List Definition
underlined_references rules (specs.OpenParagraph text) = (definitions_of rules text).0
underlined_references rules leaf = []
