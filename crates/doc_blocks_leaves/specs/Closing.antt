-- Closing the open blocks of a path, the innermost first.
use Rattle.std.specs.Prelude.{Bool, false, ◌&&◌, not, List, Option, Some, None}
use Rattle.doc_rules.specs.Rules.{Rules}
use Rattle.doc_rules.specs.Definitions.{Definition}
use Rattle.doc_rules.specs.Forests.{node}
use Rattle.doc_rules.specs.Blocks.{BlockQuote, ListItem}
use Rattle.doc_blocks_leaves.specs.Leaves.{OpenLeaf, NoLeaf, with_open, open_references}
use Rattle.doc_blocks_leaves.specs.Paths.{OpenList, Level, OpenContainer, OpenQuote, OpenItem, Path, Here, Inside, finished, with_blocks}

-- a level whose open leaf closes; with none its list stays open
unfoldable pub leaf_closed : Rules → Level → OpenLeaf → Level
leaf_closed rules level NoLeaf = level
leaf_closed rules level leaf = with_blocks level (with_open rules leaf (finished level))

-- the open list with one more item, of these blocks: a blank line between two of them makes it loose (5.3)
abbrev pub item_added : OpenList → Level → OpenList
item_added list inside = record list { tight = list.tight && not inside.gap; items = node list.items ListItem (finished inside) }

-- a level whose open item closes
unfoldable pub item_closed : Level → Option OpenList → Level → Level
item_closed level None inside = level
item_closed level (Some list) inside = record level { list = Some (item_added list inside) }

-- a level whose open container closes
unfoldable pub container_closed : Level → OpenContainer → Level → Level
container_closed level OpenQuote inside = with_blocks level (node (finished level) BlockQuote (finished inside))
container_closed level (OpenItem columns is_empty) inside = item_closed level level.list inside

-- the outermost level of a path when all that is open in it has closed, but for its list
unfoldable pub closed : Rules → Path → Level
closed rules (Here level leaf blank) = leaf_closed rules level leaf
closed rules (Inside level container path) = container_closed level container (closed rules path)

-- whether a blank line stands behind the last block of the outermost level of a path, which is no part of it: one that ends an
-- item does, one that ends a quote is the quote's
unfoldable pub path_blank : Path → Bool
path_blank (Here level leaf blank) = blank
path_blank (Inside level OpenQuote path) = false
path_blank (Inside level (OpenItem columns is_empty) path) = path_blank path

-- the definitions that leave when a path closes
unfoldable pub path_references : Rules → Path → List Definition
path_references rules (Here level leaf blank) = open_references rules leaf
path_references rules (Inside level container path) = path_references rules path
