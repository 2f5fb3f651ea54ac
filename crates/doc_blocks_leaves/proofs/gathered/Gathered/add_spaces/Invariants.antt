use Rattle.std.proofs.Common.{◌≡◌, ◌++◌}
use Rattle.std.specs.Prelude.{replicate}
use Rattle.doc_blocks_leaves.proofs.gathered.Gathered.add_spaces.Given as goal

abbrev pub invariant-spaces : goal.invariant-spaces
invariant-spaces l = (l.self.all ++ replicate l.left 32 ≡ l.initial.self.all ++ replicate l.count 32) × (l.self.kept ≡ l.initial.self.kept)

abbrev pub decreases-spaces : goal.decreases-spaces
decreases-spaces l = l.left
