-- A tree that grows by tags.
use Rattle.std.specs.Prelude.{◌≡◌, map, reverse}
use Rattle.doc_blocks_starts.specs.OpenTags.{Entry, Open}
use Rattle.doc_blocks.specs.Views.{blocks_shown}
use Rattle.doc_blocks.specs.declared.tree.Tree.{Tree}

-- what was read of the tags so far is this tree
pub record Shows (tree : Tree) (state : Open) : Type 0 where
  pub before : reverse (map (λ blocks. blocks_shown blocks.items) tree.before.items) ≡ map (λ (entry : Entry). entry.1) state.0
  pub last : blocks_shown tree.blocks.items ≡ state.1
