-- The tree of a text's lines, which are added one by one (CommonMark 0.31.2, sections 3, 4 and 5; the phases are those of its appendix).
-- Nothing is marked open or closed but fences and HTML blocks: the open blocks are the last ones, and a blank line is kept as a leaf.
use Rattle.std.specs.Prelude.{ℕ, zero, suc, ◌-◌, nat_le, Bool, true, false, not, ◌&&◌, ◌||◌, ◌==◌, List, [], ◌∷◌, ◌++◌, length, Option}
use Rattle.std.specs.Prelude.{Some, None, if◌then◌else◌}
use Rattle.doc_rules.specs.Characters.{Text}
use Rattle.doc_rules.specs.Lines.{lines_of, line_content}
use Rattle.doc_rules.specs.Columns.{Line, cells_of, text_of, indent, after_indent, skip, is_blank_line}
use Rattle.doc_rules.specs.Rules.{Rules}
use Rattle.doc_rules.specs.Definitions.{definitions_of}
use Rattle.doc_rules.specs.LeafStarts.{marker_text, is_thematic_break, atx_heading, underline_level, Fence, opening_fence, closes_fence}
use Rattle.doc_rules.specs.HtmlStarts.{HtmlKind, html_start, may_interrupt_paragraph, ends_before_blank, ends_html}
use Rattle.doc_rules.specs.ContainerStarts.{quote_start, ListKind, ItemStart, item_start, item_may_interrupt}
use Rattle.doc_rules.specs.Tables.{has_table}
use Rattle.doc_rules.specs.Forests.{Forest, none, ◌▹◌, node}

-- a paragraph's lines joined by LF, also where an underline made them a heading (definitions still stand at their front);
-- fences and HTML blocks say whether they go on
pub data LeafLines : Type 0 where
  ParagraphLines : Text → LeafLines
  AtxLine SetextLines : (level : ℕ) → Text → LeafLines
  IndentedLines : List Text → LeafLines
  FencedLines : (goes_on : Bool) → Fence → (info : Text) → List Text → LeafLines
  HtmlLines : (goes_on : Bool) → HtmlKind → List Text → LeafLines
  BreakLine BlankLine : LeafLines

-- an item knows the columns before its content; lists are made when all lines are there
pub data ContainerLines : Type 0 where
  QuoteLines : ContainerLines
  ItemLines : ListKind → (start columns : ℕ) → ContainerLines
  ListLines : ListKind → (start : ℕ) → (tight : Bool) → ContainerLines

-- blocks as lines make them
abbrev pub Tree : Type 0
Tree = Forest LeafLines ContainerLines

-- nothing stands in the tree
unfoldable pub is_empty_tree : Tree → Bool
is_empty_tree none = true
is_empty_tree _ = false

-- ---- what an open container asks of a line

-- the line inside the container, where the line goes on with it: behind a quote's marker, or behind an item's columns; a blank
-- line goes on with an item too, unless the item started blank and holds nothing (5.2)
unfoldable pub matched : ContainerLines → Tree → Line → Option Line
matched QuoteLines inside line = quote_start line
matched (ItemLines kind start columns) inside line =
    elim (nat_le columns (indent line) && not (is_blank_line line) || (is_blank_line line && not (is_empty_tree inside)))
    [ true ↦ Some (skip columns line) | false ↦ None ]
matched (ListLines kind start tight) inside line = None

-- ---- the open paragraph

-- its text, where the last leaf is a paragraph
unfoldable pub open_paragraph : Tree → Option Text
open_paragraph none = None
open_paragraph (before ▹ ParagraphLines text) = Some text
open_paragraph (before ▹ leaf) = None
open_paragraph (node before container inside) = open_paragraph inside

-- lines of a paragraph lose the spaces and tabs at their fronts (4.8)
abbrev pub line_text : Line → Text
line_text line = text_of (after_indent line)

-- the tree in which the line goes on with the open paragraph
unfoldable pub continued : Line → Tree → Tree
continued line none = none
continued line (before ▹ ParagraphLines text) = before ▹ ParagraphLines (text ++ 10 ∷ line_text line)
continued line (before ▹ leaf) = before ▹ leaf
continued line (node before container inside) = node before container (continued line inside)

-- ---- starts of leaves

-- the paragraph that a line could go on with: none, one whose containers the line matched, or one that it could only continue lazily.
-- One with a table in it is none to the lines behind, but that they may be its rows where they matched its containers (GFM 4.10)
pub data Situation : Type 0 where
  NoParagraph : Situation
  InTable : Situation
  InParagraph : Text → Situation
  LazyParagraph : Situation

-- no paragraph could go on with the line
unfoldable pub has_no_paragraph : Situation → Bool
has_no_paragraph NoParagraph = true
has_no_paragraph InTable = true
has_no_paragraph _ = false

-- the situation of a line that matches the containers of a paragraph with this text
unfoldable pub paragraph_situation : Rules → Text → Situation
paragraph_situation rules text = if rules.tables && has_table text then InTable else InParagraph text

-- what a line begins: a leaf, or the heading of this level that the open paragraph becomes
pub data LeafStart : Type 0 where
  NewLeaf : LeafLines → LeafStart
  Underline : (level : ℕ) → LeafStart

-- 4.2
unfoldable pub atx_begins : Text → Option LeafStart
atx_begins text = elim (atx_heading text) [ Some heading ↦ Some (NewLeaf (AtxLine heading.0 heading.1)) | None ↦ None ]

-- 4.5
unfoldable pub fence_begins : Line → Text → Option LeafStart
fence_begins line text = elim (opening_fence (indent line) text)
    [ Some found ↦ Some (NewLeaf (FencedLines true found.0 found.1 [])) | None ↦ None ]

-- 4.6; kind 7 doesn't begin where a paragraph could go on, also lazily (the latter is this project's choice)
unfoldable pub html_begins : Situation → Line → Text → Option LeafStart
html_begins situation line text =
    elim (html_start text) [
      | None ↦ None
      | Some kind ↦ elim (may_interrupt_paragraph kind || has_no_paragraph situation) [
        | true ↦ Some (NewLeaf (HtmlLines (not (ends_html kind text)) kind (text_of line ∷ [])))
        | false ↦ None
      ]
    ]

-- 4.3; an underline is never lazy, and where only definitions stand above it, it is none (the latter is this project's choice)
unfoldable pub setext_begins : Rules → Situation → Text → Option LeafStart
setext_begins rules (InParagraph above) text =
    elim (underline_level text) [
      | None ↦ None
      | Some level ↦ elim (length (definitions_of rules above).1 == 0) [ true ↦ None | false ↦ Some (Underline level) ]
    ]
setext_begins rules situation text = None

-- 4.1
unfoldable pub break_begins : Text → Option LeafStart
break_begins text = elim (is_thematic_break text) [ true ↦ Some (NewLeaf BreakLine) | false ↦ None ]

-- the first leaf that this text, at most 3 columns in, begins
unfoldable pub text_begins : Rules → Situation → Line → Text → Option LeafStart
text_begins rules situation line text =
    elim (atx_begins text) [
      | Some start ↦ Some start
      | None ↦ elim (fence_begins line text) [
        | Some start ↦ Some start
        | None ↦ elim (html_begins situation line text) [
          | Some start ↦ Some start
          | None ↦ elim (setext_begins rules situation text) [ Some start ↦ Some start | None ↦ break_begins text ]
        ]
      ]
    ]

-- the leaf that this line begins
unfoldable pub leaf_begins : Rules → Situation → Line → Option LeafStart
leaf_begins rules situation line = elim (marker_text line) [ None ↦ None | Some text ↦ text_begins rules situation line text ]

-- the tree whose open paragraph becomes a heading
unfoldable pub underlined : ℕ → Tree → Tree
underlined level (before ▹ ParagraphLines text) = before ▹ SetextLines level text
underlined level tree = tree

-- the tree with what a line began
unfoldable pub with_start : Tree → LeafStart → Tree
with_start tree (NewLeaf leaf) = tree ▹ leaf
with_start tree (Underline level) = underlined level tree

-- an item may begin here: some items may not interrupt a paragraph of their own containers (5.2)
unfoldable pub item_may_begin : Situation → ItemStart → Bool
item_may_begin (InParagraph text) item = item_may_interrupt item
item_may_begin situation item = true

-- ---- adding a line

-- the tree with a line that goes on with the table before it, or else begins a paragraph
unfoldable pub add_row_or_paragraph : Situation → Line → Tree → Tree
add_row_or_paragraph InTable line tree = continued line tree
add_row_or_paragraph situation line tree = tree ▹ ParagraphLines (line_text line)

-- the tree with a line that begins nothing: a blank line, a line of the open paragraph (4.8), indented code (4.4), a row of a table
-- (GFM 4.10), or a new paragraph
unfoldable pub add_text : Situation → Line → Tree → Tree
add_text situation line tree =
    elim (is_blank_line line) [
      | true ↦ tree ▹ BlankLine
      | false ↦ elim (has_no_paragraph situation) [
        | false ↦ continued line tree
        | true ↦ elim (nat_le 4 (indent line)) [
          | true ↦ tree ▹ IndentedLines (text_of (skip 4 line) ∷ [])
          | false ↦ add_row_or_paragraph situation line tree
        ]
      ]
    ]

-- the tree with a line that begins no container
unfoldable pub add_leaf : Rules → Situation → Line → Tree → Tree
add_leaf rules situation line tree = elim (leaf_begins rules situation line)
    [ Some start ↦ with_start tree start | None ↦ add_text situation line tree ]

-- the tree with a line that begins neither a quote nor a leaf; what the first line of an item begins inside is handed in
unfoldable pub add_item : Situation → Line → Tree → (Line → Tree) → Tree
add_item situation line tree inside =
    elim (item_start line) [
      | None ↦ add_text situation line tree
      | Some item ↦ elim (item_may_begin situation item) [
        | false ↦ add_text situation line tree
        | true ↦ node tree (ItemLines item.kind item.start item.columns)
            (elim (is_blank_line item.first) [ true ↦ none | false ↦ inside item.first ])
      ]
    ]

-- the tree with a line that begins no quote
unfoldable pub add_leaf_or_item : Rules → Situation → Line → Tree → (Line → Tree) → Tree
add_leaf_or_item rules situation line tree inside =
    elim (leaf_begins rules situation line) [ Some start ↦ with_start tree start | None ↦ add_item situation line tree inside ]

-- the tree with a line behind which so many more quotes and items may be open; past that a marker is text (this project's choice).
-- Sought in this order: a quote, a leaf, an item
unfoldable pub add_blocks : ℕ → Rules → Situation → Line → Tree → Tree
add_blocks zero rules situation line tree = add_leaf rules situation line tree
add_blocks (suc room) rules situation line tree =
    elim (quote_start line) [
      | Some rest ↦ node tree QuoteLines (add_blocks room rules NoParagraph rest none)
      | None ↦ add_leaf_or_item rules situation line tree (λ first. add_blocks room rules NoParagraph first none)
    ]

-- the tree with a line, where the last block is this leaf: fences, HTML blocks and indented code take it first
unfoldable pub add_to_leaf : ℕ → Rules → Line → Tree → LeafLines → Tree
add_to_leaf room rules line before (ParagraphLines text) =
    add_blocks room rules (paragraph_situation rules text) line (before ▹ ParagraphLines text)
add_to_leaf room rules line before (IndentedLines lines) =
    elim (nat_le 4 (indent line) || is_blank_line line) [
      | true ↦ before ▹ IndentedLines (lines ++ text_of (skip 4 line) ∷ [])
      | false ↦ add_blocks room rules NoParagraph line (before ▹ IndentedLines lines)
    ]
add_to_leaf room rules line before (FencedLines true fence info lines) =
    elim (closes_fence fence line) [
      | true ↦ before ▹ FencedLines false fence info lines
      | false ↦ before ▹ FencedLines true fence info (lines ++ text_of (skip fence.indent line) ∷ [])
    ]
add_to_leaf room rules line before (HtmlLines true kind lines) =
    elim (ends_before_blank kind && is_blank_line line) [
      | true ↦ before ▹ HtmlLines false kind lines ▹ BlankLine
      | false ↦ before ▹ HtmlLines (not (ends_html kind (text_of line))) kind (lines ++ text_of line ∷ [])
    ]
add_to_leaf room rules line before leaf = add_blocks room rules NoParagraph line (before ▹ leaf)

-- the situation of a line that doesn't match the container over these blocks
unfoldable pub lazy_situation : Rules → Tree → Situation
lazy_situation rules inside =
    elim (open_paragraph inside)
    [ Some text ↦ if rules.tables && has_table text then NoParagraph else LazyParagraph | None ↦ NoParagraph ]

-- the tree with a line: it goes down the last containers while they match
unfoldable pub add_line : ℕ → Rules → Line → Tree → Tree
add_line room rules line none = add_blocks room rules NoParagraph line none
add_line room rules line (before ▹ leaf) = add_to_leaf room rules line before leaf
add_line room rules line (node before container inside) =
    elim (matched container inside line) [
      | Some rest ↦ node before container (add_line (room - 1) rules rest inside)
      | None ↦ add_blocks room rules (lazy_situation rules inside) line (node before container inside)
    ]

-- the tree with all of these lines
unfoldable pub add_lines : ℕ → Rules → List Text → Tree → Tree
add_lines room rules [] tree = tree
add_lines room rules (line ∷ more) tree = add_lines room rules more (add_line room rules (cells_of (line_content line)) tree)

-- the tree of a text in which so many quotes and items may be open at once
abbrev pub tree_within : ℕ → Rules → Text → Tree
tree_within room rules text = add_lines room rules (lines_of text) none
