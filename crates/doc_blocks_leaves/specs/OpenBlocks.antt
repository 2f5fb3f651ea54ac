-- One line of a document on the path of open blocks: what is open and goes on with the line, what closes, and what begins
-- (the appendix of CommonMark 0.31.2, phase 1).
use Rattle.std.specs.Prelude.{ℕ, zero, suc, ◌-◌, nat_le, Bool, true, false, not, List, [], ◌∷◌, ◌++◌, Some, None}
use Rattle.doc_rules.specs.Characters.{Text}
use Rattle.doc_rules.specs.Lines.{lines_of, line_content}
use Rattle.doc_rules.specs.Columns.{Line, cells_of, indent, is_blank_line}
use Rattle.doc_rules.specs.Rules.{Rules}
use Rattle.doc_rules.specs.Definitions.{Definition, definitions_of}
use Rattle.doc_rules.specs.ContainerStarts.{ItemStart, item_start, quote_start}
use Rattle.doc_rules.specs.Trees.{LeafLines, Situation, NoParagraph, InTable, paragraph_situation, LeafStart, NewLeaf, Underline}
use Rattle.doc_rules.specs.Trees.{leaf_begins, item_may_begin, line_text}
use Rattle.doc_rules.specs.Blocks.{Heading, with_text, with_leaf, tasks_read, Document}
use Rattle.doc_blocks_leaves.specs.Leaves.{OpenLeaf, NoLeaf, OpenParagraph, OpenCode, open_of, code_with, taken, Taken, NotTaken, GoesOn}
use Rattle.doc_blocks_leaves.specs.Leaves.{Closes}
use Rattle.doc_blocks_leaves.specs.Paths.{Level, OpenContainer, OpenQuote, OpenItem, Path, Here, Inside, empty_path, finished, with_blocks}
use Rattle.doc_blocks_leaves.specs.Paths.{begun_at, item_begun_at, matched_open, gone_on, lazy_path_situation}
use Rattle.doc_blocks_leaves.specs.Closing.{leaf_closed, closed, path_blank, path_references}

-- the path behind a line, and the definitions that left paragraphs which closed
pub record Moved : Type 0 where
  pub path : Path
  pub refs : List Definition

-- a move inside an open container
abbrev pub moved_inside : Level → OpenContainer → Moved → Moved
moved_inside level container inside = record { path = Inside level container inside.path; refs = inside.refs }

-- a move of which all that was open in the path closes
abbrev pub after_closing : Rules → Path → Path → Moved
after_closing rules old new = record { path = new; refs = path_references rules old }

-- ---- a line with which no open block goes on, in front of which so many quotes and items may still begin

-- the level when all that is open in the path has closed, and a block begins there
abbrev pub level_for : Rules → Path → Level
level_for rules path = begun_at (closed rules path) (path_blank path)

-- a leaf of one line that begins at a level: it is open, or finished at once
unfoldable pub leaf_put : Rules → Level → LeafLines → OpenLeaf → Path
leaf_put rules level leaf NoLeaf = Here (with_blocks level (with_leaf rules leaf level.blocks)) NoLeaf false
leaf_put rules level leaf start = Here level start false

-- the open paragraph becomes a heading (4.3)
unfoldable pub underlined_path : Rules → ℕ → Path → Moved
underlined_path rules n (Here level (OpenParagraph text) blank) = record {
  path = Here (with_blocks level (with_text (Heading n) (definitions_of rules text).1 (finished level))) NoLeaf false;
  refs = (definitions_of rules text).0;
}
underlined_path rules n path = record { path = path; refs = [] }

-- what the line began
unfoldable pub leaf_begun : Rules → Path → LeafStart → Moved
leaf_begun rules path (NewLeaf leaf) = after_closing rules path (leaf_put rules (level_for rules path) leaf (open_of rules leaf))
leaf_begun rules path (Underline n) = underlined_path rules n path

-- the line goes on with the open paragraph
unfoldable pub paragraph_continued : Line → Path → Path
paragraph_continued line (Here level (OpenParagraph text) blank) = Here level (OpenParagraph (text ++ 10 ∷ line_text line)) blank
paragraph_continued line (Here level leaf blank) = Here level leaf blank
paragraph_continued line (Inside level container path) = Inside level container (paragraph_continued line path)

-- the open paragraph goes on with a line that begins nothing and isn't blank; to the line, one with a table in it is none where the line
-- is indented as code
unfoldable pub goes_on_with : Situation → Line → Bool
goes_on_with NoParagraph line = false
goes_on_with InTable line = not (nat_le 4 (indent line))
goes_on_with situation line = true

-- a line that begins nothing: a blank line, a line of the open paragraph (4.8), indented code (4.4), or a new paragraph
unfoldable pub text_put : Rules → Situation → Line → Path → Moved
text_put rules situation line path =
    elim (is_blank_line line) [
      | true ↦ after_closing rules path (Here (closed rules path) NoLeaf true)
      | false ↦ elim (goes_on_with situation line) [
        | true ↦ record { path = paragraph_continued line path; refs = [] }
        | false ↦ elim (nat_le 4 (indent line)) [
          | true ↦ after_closing rules path (Here (level_for rules path) (OpenCode (code_with line []) (code_with line [])) false)
          | false ↦ after_closing rules path (Here (level_for rules path) (OpenParagraph (line_text line)) false)
        ]
      ]
    ]

-- a line that begins no container
unfoldable pub leaf_step : Rules → Situation → Line → Path → Moved
leaf_step rules situation line path = elim (leaf_begins rules situation line)
    [ Some start ↦ leaf_begun rules path start | None ↦ text_put rules situation line path ]

-- the first line of an item, in which nothing stands yet
unfoldable pub item_first : Line → (Line → Moved) → Moved
item_first line inside = elim (is_blank_line line) [ true ↦ record { path = empty_path; refs = [] } | false ↦ inside line ]

-- an item begins behind a path (5.2)
abbrev pub item_put : Rules → Path → ItemStart → (Line → Moved) → Moved
item_put rules path item inside = record {
  path = Inside (item_begun_at (closed rules path) (path_blank path) item.kind item.start)
      (OpenItem item.columns (is_blank_line item.first)) (item_first item.first inside).path;
  refs = path_references rules path ++ (item_first item.first inside).refs;
}

-- a line that begins neither a quote nor a leaf; what the first line of an item begins inside is handed in
unfoldable pub item_step : Rules → Situation → Line → Path → (Line → Moved) → Moved
item_step rules situation line path inside =
    elim (item_start line) [
      | None ↦ text_put rules situation line path
      | Some item ↦ elim (item_may_begin situation item) [
        | false ↦ text_put rules situation line path
        | true ↦ item_put rules path item
            inside
      ]
    ]

-- a line that begins no quote
unfoldable pub leaf_or_item_step : Rules → Situation → Line → Path → (Line → Moved) → Moved
leaf_or_item_step rules situation line path inside =
    elim (leaf_begins rules situation line) [ Some start ↦ leaf_begun rules path start | None ↦ item_step rules situation line path inside ]

-- a quote begins behind a path (5.1)
abbrev pub quote_put : Rules → Path → Moved → Moved
quote_put rules path inside = record {
  path = Inside (level_for rules path) OpenQuote inside.path;
  refs = path_references rules path
      ++ inside.refs;
}

-- sought in this order: a quote, a leaf, an item; where no more quotes and items may be open, a marker is text (this project's choice)
unfoldable pub start_step : ℕ → Rules → Situation → Line → Path → Moved
start_step zero rules situation line path = leaf_step rules situation line path
start_step (suc room) rules situation line path =
    elim (quote_start line) [
      | Some rest ↦ quote_put rules path (start_step room rules NoParagraph rest empty_path)
      | None ↦ leaf_or_item_step rules situation line path (λ first. start_step room rules NoParagraph first empty_path)
    ]

-- ---- a line

-- at the innermost level, by what the open leaf does with the line
unfoldable pub leaf_takes : ℕ → Rules → Line → Level → OpenLeaf → Bool → Taken → Moved
leaf_takes room rules line level leaf blank (GoesOn next next_blank) = record { path = Here level next next_blank; refs = [] }
leaf_takes room rules line level leaf blank (Closes next next_blank) = record {
  path = Here (leaf_closed rules level next) NoLeaf
      next_blank;
  refs = [];
}
leaf_takes room rules line level (OpenParagraph text) blank NotTaken = start_step room rules (paragraph_situation rules text) line
    (Here level (OpenParagraph text) blank)
leaf_takes room rules line level leaf blank NotTaken = start_step room rules NoParagraph line (Here level leaf blank)

-- a line goes down the open containers while they match
unfoldable pub line_step : ℕ → Rules → Line → Path → Moved
line_step room rules line (Here level leaf blank) = leaf_takes room rules line level leaf blank (taken line leaf)
line_step room rules line (Inside level container path) =
    elim (matched_open container line) [
      | Some rest ↦ moved_inside level (gone_on container) (line_step (room - 1) rules rest path)
      | None ↦ start_step room rules (lazy_path_situation rules path) line (Inside level container path)
    ]

-- ---- lines, one by one

-- the lines behind a path, with the definitions that left before
unfoldable pub line_steps : ℕ → Rules → List Text → Moved → Moved
line_steps room rules [] m = m
line_steps room rules (line ∷ more) m =
    let next : Moved = line_step room rules (cells_of (line_content line)) m.path in
    line_steps room rules more (record { path = next.path; refs = m.refs ++ next.refs })

-- the document, when all lines are there
unfoldable pub path_document : Rules → Moved → Document
path_document rules m = record { blocks = tasks_read rules (finished (closed rules m.path)); refs = m.refs ++ path_references rules m.path }

-- the document of a text, read in one pass
unfoldable pub one_pass : ℕ → Rules → Text → Document
one_pass room rules text = path_document rules (line_steps room rules (lines_of text) (record { path = empty_path; refs = [] }))
