-- Blocks in a row as tags, in the order of the text (CommonMark 0.31.2, sections 4 and 5).
use Rattle.std.specs.Prelude.{List, [], ◌∷◌, ◌++◌, map, chars}
use Rattle.doc_rules.specs.Forests.{none, ◌▹◌, node}
use Rattle.doc_rules.specs.Blocks.{Leaf, Paragraph, Heading, IndentedCode, FencedCode, HtmlBlock, ThematicBreak, TableBlock, Task}
use Rattle.doc_rules.specs.Blocks.{Container, BlockQuote, ListBlock, ListItem, Blocks}
use Rattle.doc_rules.specs.Tables.{TableSource}
use Rattle.doc_lines.specs.RestSteps.{rest_of}
use Rattle.doc_blocks_starts.specs.Tables.{lines_in, source_of}
use Rattle.doc_blocks_starts.specs.declared.table_lines.TableLines.{TableLines}
use Rattle.doc_blocks_starts.specs.declared.tag.LeafBlock.{LeafBlock}
use Rattle.doc_blocks_starts.specs.declared.tag.LeafBlock.TheVariants as leaf
use Rattle.doc_blocks_starts.specs.declared.tag.ContainerBlock.{ContainerBlock}
use Rattle.doc_blocks_starts.specs.declared.tag.ContainerBlock.TheVariants as container
use Rattle.doc_blocks_starts.specs.declared.tag.Tag as code
use Rattle.doc_blocks_starts.specs.declared.tag.Tag.TheVariants as tag

-- a leaf block, or where a container block starts or ends
pub data Tag : Type 0 where
  OneLeaf : Leaf → Tag
  Start : Container → Tag
  End : Container → Tag

-- the tags of blocks in a row
unfoldable pub tags_of : Blocks → List Tag
tags_of none = []
tags_of (before ▹ leaf) = tags_of before ++ OneLeaf leaf ∷ []
tags_of (node before container inside) = tags_of before ++ Start container ∷ (tags_of inside ++ End container ∷ [])

-- ---- the tags of the code

abbrev pub table_shown : TableLines → TableSource
table_shown lines = source_of (chars lines.header.now) (chars lines.delimiters.now) (lines_in (rest_of lines.rows))

unfoldable pub leaf_shown : LeafBlock → Leaf
leaf_shown (leaf.Para text) = Paragraph (chars text.now)
leaf_shown (leaf.Heading level text) = Heading level (chars text.now)
leaf_shown (leaf.Code text) = IndentedCode (chars text.now)
leaf_shown (leaf.Fence info text) = FencedCode (chars info.now) (chars text.now)
leaf_shown (leaf.Html text) = HtmlBlock (chars text.now)
leaf_shown leaf.Break = ThematicBreak
leaf_shown (leaf.Table lines) = TableBlock (table_shown lines.now)
leaf_shown (leaf.Task done text) = Task done (chars text.now)

unfoldable pub container_shown : ContainerBlock → Container
container_shown container.Quote = BlockQuote
container_shown (container.List start tight) = ListBlock start tight
container_shown container.Item = ListItem

unfoldable pub tag_shown : code.Tag → Tag
tag_shown (tag.Leaf leaf) = OneLeaf (leaf_shown leaf)
tag_shown (tag.Start container) = Start (container_shown container)
tag_shown (tag.End container) = End (container_shown container)

abbrev pub tags_shown : List code.Tag → List Tag
tags_shown tags = map tag_shown tags
