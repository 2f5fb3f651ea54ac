-- The leaf block that a line or an end leaves, behind those before it.
use denote.Ref.{Bor}
use Rattle.std.specs.Prelude.{Option, Some, None}
use Rattle.doc_rules.specs.Forests.{◌▹◌}
use Rattle.doc_rules.specs.Blocks.{TableBlock, Blocks}
use Rattle.doc_blocks_starts.specs.Tags.{leaf_shown, table_shown}
use Rattle.doc_blocks_starts.specs.declared.table_lines.TableLines.{TableLines}
use Rattle.doc_blocks_starts.specs.declared.tag.LeafBlock.{LeafBlock}
use Rattle.doc_blocks_leaves.specs.declared.closed.Closed.{Closed}

-- these blocks with a leaf block behind them, where there is one
unfoldable pub with_block : Option LeafBlock → Blocks → Blocks
with_block None before = before
with_block (Some leaf) before = before ▹ leaf_shown leaf

-- these blocks with the table of these lines behind them, where there are any
unfoldable pub with_lines : Option (Bor TableLines) → Blocks → Blocks
with_lines None before = before
with_lines (Some lines) before = before ▹ TableBlock (table_shown lines.now)

-- these blocks with those of a leaf that closed behind them
unfoldable pub with_closed : Closed → Blocks → Blocks
with_closed closed before = with_lines closed.table (with_block closed.block before)
