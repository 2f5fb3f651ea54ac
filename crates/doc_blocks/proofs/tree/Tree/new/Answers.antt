use Rattle.doc_blocks.proofs.TreeLaws.{shows_none}
use Rattle.doc_blocks.proofs.tree.Tree.new.Goals as goal

pub returns : goal.returns
returns c = shows_none (record { before = c.new.result; blocks = c.new-2.result }) c.new.ensures.items c.new-2.ensures.items
