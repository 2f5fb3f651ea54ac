-- The open containers of the code, seen as those of a path.
use Rattle.doc_blocks_leaves.specs.Paths as paths
use Rattle.doc_rules.specs.Blocks as blocks
use Rattle.doc_blocks.specs.declared.container.Container.{Container}
use Rattle.doc_blocks.specs.declared.container.Container.TheVariants.{Quote, Item}

abbrev pub container_shown : Container → paths.OpenContainer
container_shown Quote = paths.OpenQuote
container_shown (Item columns is_empty) = paths.OpenItem columns is_empty

-- as a block
abbrev pub block_of : Container → blocks.Container
block_of Quote = blocks.BlockQuote
block_of (Item columns is_empty) = blocks.ListItem
