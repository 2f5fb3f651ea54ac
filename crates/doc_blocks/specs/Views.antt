-- The blocks of the code, seen as those of a document (CommonMark 0.31.2, sections 4 and 5).
use Rattle.std.specs.Prelude.{List, [], ◌∷◌, chars, option_map}
use Rattle.doc_rules.specs.Forests.{none, ◌▹◌, node}
use Rattle.doc_rules.specs.Blocks.{Paragraph, Heading, IndentedCode, FencedCode, HtmlBlock, ThematicBreak, BlockQuote, ListBlock, ListItem}
use Rattle.doc_rules.specs.Blocks.{TableBlock, Task, Blocks}
use Rattle.doc_blocks_starts.specs.Tables.{lines_in, source_of}
use Rattle.doc_blocks.specs.declared.block.Block.{Block}
use Rattle.doc_blocks.specs.declared.block.Block.TheOpen.{Block-F}
use Rattle.doc_blocks.specs.declared.block.Block.TheFolds.{fold-Block}

-- the blocks behind which each of these put its own, the first one first
unfoldable pub run : List (Blocks → Blocks) → Blocks → Blocks
run [] before = before
run (f ∷ more) before = run more (f before)

-- one block, where those inside it are known
unfoldable pub step : Block-F (Blocks → Blocks) → Blocks → Blocks
step (Block-F.Para text) before = before ▹ Paragraph (chars text)
step (Block-F.Heading level text) before = before ▹ Heading level (chars text)
step (Block-F.Code text) before = before ▹ IndentedCode (chars text)
step (Block-F.Fence info text) before = before ▹ FencedCode (chars info) (chars text)
step (Block-F.Html text) before = before ▹ HtmlBlock (chars text)
step Block-F.Break before = before ▹ ThematicBreak
step (Block-F.Table header delimiters rows) before =
    before ▹ TableBlock (source_of (chars header) (chars delimiters) (lines_in (option_map chars rows)))
step (Block-F.Task done text) before = before ▹ Task done (chars text)
step (Block-F.Quote inside) before = node before BlockQuote (run inside.items none)
step (Block-F.List start tight items) before = node before (ListBlock start tight) (run items.items none)
step (Block-F.Item inside) before = node before ListItem (run inside.items none)

-- these blocks and one more behind them
unfoldable pub behind : Block → Blocks → Blocks
behind = fold-Block (Blocks → Blocks) step

-- these blocks and several more behind them
unfoldable pub forest : List Block → Blocks → Blocks
forest [] before = before
forest (block ∷ more) before = forest more (behind block before)

-- blocks in a row
abbrev pub blocks_shown : List Block → Blocks
blocks_shown items = forest items none
