-- Starts of list items, seen as those of the definitions (CommonMark 0.31.2, section 5.2).
use Rattle.std.specs.Prelude.{Option, Some, None}
use Rattle.doc_rules.specs.ContainerStarts as rules
use Rattle.doc_lines.specs.Cursors.{Position, left_of}
use Rattle.doc_blocks_starts.specs.declared.item.Item.{Item}
use Rattle.doc_blocks_starts.specs.declared.item.kind.ListKind.{ListKind}
use Rattle.doc_blocks_starts.specs.declared.item.kind.ListKind.TheVariants.{Bullet, Ordered}

abbrev pub kind_of : ListKind → rules.ListKind
kind_of (Bullet c) = rules.Bullet c
kind_of (Ordered c) = rules.Ordered c

-- an item whose content begins at this place
abbrev pub item_shown : Item → Position → rules.ItemStart
item_shown i place = record { kind = kind_of i.kind; start = i.start; columns = i.columns; first = left_of place }

abbrev pub item_taken : Option Item → Position → Option rules.ItemStart
item_taken None place = None
item_taken (Some i) place = Some (item_shown i place)
