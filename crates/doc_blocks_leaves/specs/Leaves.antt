-- The open leaf of a document that is read line by line: the last block, where it may take the next line
-- (CommonMark 0.31.2, sections 4.4 to 4.8, and the phases of its appendix). Its text is gathered as the document will hold it.
use Rattle.std.specs.Prelude.{nat_le, Bool, true, false, ◌&&◌, ◌||◌, List, [], ◌∷◌, ◌++◌}
use Rattle.doc_rules.specs.Characters.{Text}
use Rattle.doc_rules.specs.Columns.{Line, text_of, indent, skip, is_blank_line}
use Rattle.doc_rules.specs.Rules.{Rules}
use Rattle.doc_rules.specs.Escapes.{unescape}
use Rattle.doc_rules.specs.Definitions.{Definition, definitions_of}
use Rattle.doc_rules.specs.LeafStarts.{Fence, closes_fence}
use Rattle.doc_rules.specs.HtmlStarts.{HtmlKind, ends_before_blank, ends_html}
use Rattle.doc_rules.specs.Forests.{◌▹◌}
use Rattle.doc_rules.specs.Trees.{LeafLines, ParagraphLines, IndentedLines, FencedLines, HtmlLines}
use Rattle.doc_rules.specs.Blocks.{IndentedCode, FencedCode, HtmlBlock, Blocks, ended, joined, without_last_blanks, with_text, table_of}
use Rattle.doc_rules.specs.Blocks.{with_table}
use Rattle.doc_rules.specs.Blocks.{Paragraph, paragraph_of}

-- Of indented code and HTML blocks the text of all lines, and of those before the last blank ones. Definitions still stand at
-- a paragraph's front; an info string's escapes and references are read.
pub data OpenLeaf : Type 0 where
  NoLeaf : OpenLeaf
  OpenParagraph : Text → OpenLeaf
  OpenCode : (all kept : Text) → OpenLeaf
  OpenFence : Fence → (info text : Text) → OpenLeaf
  OpenHtml : HtmlKind → (all kept : Text) → OpenLeaf

-- the open leaf that a leaf of the tree of lines is: none where it takes no more lines
unfoldable pub open_of : Rules → LeafLines → OpenLeaf
open_of rules (ParagraphLines text) = OpenParagraph text
open_of rules (IndentedLines lines) = OpenCode (ended lines) (ended (without_last_blanks lines))
open_of rules (FencedLines true fence info lines) = OpenFence fence (unescape rules info) (ended lines)
open_of rules (HtmlLines true kind lines) = OpenHtml kind (joined lines) (joined (without_last_blanks lines))
open_of rules leaf = NoLeaf

-- ---- a line

-- the text of indented code or of an HTML block before its last blank lines, of which this line is one or isn't
abbrev pub kept_with : Line → (all kept : Text) → Text
kept_with line all kept = elim (is_blank_line line) [ true ↦ kept | false ↦ all ]

-- a line of code
abbrev pub code_with : Line → Text → Text
code_with line text = text ++ (text_of (skip 4 line) ++ 10 ∷ [])

-- a line of a fence, without the columns that its opening was indented by
abbrev pub fence_with : Fence → Line → Text → Text
fence_with fence line text = text ++ (text_of (skip fence.indent line) ++ 10 ∷ [])

-- a line of an HTML block
abbrev pub html_with : Line → Text → Text
html_with line text = text ++ 10 ∷ text_of line

-- what a leaf that takes lines of any kind does with a line: nothing; it takes the line and goes on, or it closes, and then the line
-- is a blank one behind its text or isn't
pub data Taken : Type 0 where
  NotTaken : Taken
  GoesOn : OpenLeaf → (blank : Bool) → Taken
  Closes : OpenLeaf → (blank : Bool) → Taken

-- fences, HTML blocks and indented code take the line first
unfoldable pub taken : Line → OpenLeaf → Taken
taken line NoLeaf = NotTaken
taken line (OpenParagraph text) = NotTaken
taken line (OpenCode all kept) =
    elim (nat_le 4 (indent line) || is_blank_line line) [
      | true ↦ GoesOn (OpenCode (code_with line all) (kept_with line (code_with line all) kept)) (is_blank_line line)
      | false ↦ NotTaken
    ]
taken line (OpenFence fence info text) =
    elim (closes_fence fence line) [
      | true ↦ Closes (OpenFence fence info text) false
      | false ↦ GoesOn (OpenFence fence info (fence_with fence line text)) false
    ]
taken line (OpenHtml kind all kept) =
    elim (ends_before_blank kind && is_blank_line line) [
      | true ↦ Closes (OpenHtml kind all kept) true
      | false ↦ elim (ends_html kind (text_of line)) [
        | true ↦ Closes (OpenHtml kind (html_with line all) (kept_with line (html_with line all) kept)) (is_blank_line line)
        | false ↦ GoesOn (OpenHtml kind (html_with line all) (kept_with line (html_with line all) kept)) (is_blank_line line)
      ]
    ]

-- ---- the end

-- these blocks and what an open leaf becomes behind them
unfoldable pub with_open : Rules → OpenLeaf → Blocks → Blocks
with_open rules NoLeaf before = before
with_open rules (OpenParagraph text) before =
    with_table (table_of rules text) (with_text Paragraph (definitions_of rules (paragraph_of rules text)).1 before)
with_open rules (OpenCode all kept) before = before ▹ IndentedCode kept
with_open rules (OpenFence fence info text) before = before ▹ FencedCode info text
with_open rules (OpenHtml kind all kept) before = before ▹ HtmlBlock kept

-- the definitions that leave an open leaf when it closes
unfoldable pub open_references : Rules → OpenLeaf → List Definition
open_references rules (OpenParagraph text) = (definitions_of rules (paragraph_of rules text)).0
open_references rules leaf = []
