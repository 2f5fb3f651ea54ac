use Rattle.std.proofs.Common.{take}
use Rattle.doc_blocks_starts.specs.Tags.{tags_shown}
use Rattle.doc_blocks_starts.specs.OpenTags.{read}
use Rattle.doc_blocks.specs.TreeSteps.{Shows}
use Rattle.doc_blocks.proofs.tree.tree_of.Given as goal

abbrev pub invariant-loop-tag : goal.invariant-loop-tag
invariant-loop-tag l = record { shows : Shows l.tree (read (tags_shown (take l.tag-index l.tags))) }
