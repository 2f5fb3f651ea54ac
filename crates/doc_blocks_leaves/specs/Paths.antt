-- The path of open blocks of a document that is read line by line, with the finished blocks at each of its levels
-- (the appendix of CommonMark 0.31.2). It says of the lines so far all that the document and the lines to come need.
use Rattle.std.specs.Prelude.{ℕ, nat_le, Bool, true, false, ◌&&◌, ◌||◌, not, Option, Some, None, if◌then◌else◌}
use Rattle.doc_rules.specs.Characters.{Text}
use Rattle.doc_rules.specs.Columns.{Line, skip, indent, is_blank_line}
use Rattle.doc_rules.specs.ContainerStarts.{ListKind, is_same_kind, quote_start}
use Rattle.doc_rules.specs.Forests.{none, node}
use Rattle.doc_rules.specs.Rules.{Rules}
use Rattle.doc_rules.specs.Trees.{Situation, NoParagraph, LazyParagraph}
use Rattle.doc_rules.specs.Tables.{has_table}
use Rattle.doc_rules.specs.Blocks.{Blocks, ListBlock, list_start}
use Rattle.doc_blocks_leaves.specs.Leaves.{OpenLeaf, NoLeaf, OpenParagraph}

-- a list that the next item may go on with: its kind, its first number, whether it is tight so far, and its finished items
pub record OpenList : Type 0 where
  pub kind : ListKind
  pub start : ℕ
  pub tight : Bool
  pub items : Blocks

-- the finished blocks of a level, a list behind them that is still open, and whether a blank line stands between two of its blocks
pub record Level : Type 0 where
  pub blocks : Blocks
  pub list : Option OpenList
  pub gap : Bool

-- nothing stands at the level
abbrev pub empty_level : Level
empty_level = record { blocks = none; list = None; gap = false }

-- an open container: a quote, or an item of the open list with the columns before its content; an item is empty while it started
-- blank and no line went on with it
pub data OpenContainer : Type 0 where
  OpenQuote : OpenContainer
  OpenItem : (columns : ℕ) → (is_empty : Bool) → OpenContainer

-- The innermost level with the open leaf behind its blocks, and whether a blank line stands behind the last block that is no
-- part of it; or a level with an open container behind its blocks, and the path inside.
pub data Path : Type 0 where
  Here : Level → OpenLeaf → (blank : Bool) → Path
  Inside : Level → OpenContainer → Path → Path

-- the path before the first line
abbrev pub empty_path : Path
empty_path = Here empty_level NoLeaf false

-- ---- what a path asks of a line

-- the line inside the container, where the line goes on with it (5.1, 5.2)
unfoldable pub matched_open : OpenContainer → Line → Option Line
matched_open OpenQuote line = quote_start line
matched_open (OpenItem columns is_empty) line =
    elim ((nat_le columns (indent line) && not (is_blank_line line)) || (is_blank_line line && not is_empty))
    [ true ↦ Some (skip columns line) | false ↦ None ]

-- the container behind a line that went on with it
abbrev pub gone_on : OpenContainer → OpenContainer
gone_on OpenQuote = OpenQuote
gone_on (OpenItem columns is_empty) = OpenItem columns false

-- the text of the open paragraph, where the open leaf is one
unfoldable pub paragraph_of : Path → Option Text
paragraph_of (Here level (OpenParagraph text) blank) = Some text
paragraph_of (Here level leaf blank) = None
paragraph_of (Inside level container path) = paragraph_of path

-- the paragraph that a line could go on with which didn't match the container over this path
unfoldable pub lazy_path_situation : Rules → Path → Situation
lazy_path_situation rules path =
    elim (paragraph_of path)
    [ Some text ↦ if rules.tables && has_table text then NoParagraph else LazyParagraph | None ↦ NoParagraph ]

-- ---- levels

-- the blocks of a level whose list closes
unfoldable pub finished_list : Blocks → Option OpenList → Blocks
finished_list blocks None = blocks
finished_list blocks (Some list) = node blocks (ListBlock (list_start list.kind list.start) list.tight) list.items

abbrev pub finished : Level → Blocks
finished level = finished_list level.blocks level.list

-- a level with these blocks, which goes on with no list
abbrev pub with_blocks : Level → Blocks → Level
with_blocks level blocks = record { blocks = blocks; list = None; gap = level.gap }

-- a level at which a block begins: its list closes, and a blank line behind its last block is one between two blocks
abbrev pub begun_at : Level → (blank : Bool) → Level
begun_at level blank = record { blocks = finished level; list = None; gap = level.gap || blank }

-- a level at which an item begins that a list of its kind stands before: a blank line between two items makes a list loose (5.3)
abbrev pub one_more_item : Level → OpenList → (blank : Bool) → Level
one_more_item level list blank = record level { list = Some (record list { tight = list.tight && not blank }) }

-- a level at which the first item of a list begins
abbrev pub first_item : Level → (blank : Bool) → ListKind → ℕ → Level
first_item level blank kind start =
    record {
      blocks = finished level;
      list = Some (record { kind = kind; start = start; tight = true; items = none });
      gap = level.gap ||
          blank;
    }

-- a level at which an item begins, by the list that stands there
unfoldable pub item_begun_in : Level → (blank : Bool) → ListKind → ℕ → Option OpenList → Level
item_begun_in level blank kind start None = first_item level blank kind start
item_begun_in level blank kind start (Some list) =
    elim (is_same_kind list.kind kind) [ true ↦ one_more_item level list blank | false ↦ first_item level blank kind start ]

-- a level at which an item begins
abbrev pub item_begun_at : Level → (blank : Bool) → ListKind → ℕ → Level
item_begun_at level blank kind start = item_begun_in level blank kind start level.list
