use Rattle.std.proofs.Common.{◌-◌, ◌≡◌, ◌<◌, ◌≤◌, false, true, length}
use Rattle.std.specs.FinMap as map
use Rattle.std.specs.List.{HoldsAt}
use Rattle.doc_index_tables.specs.Blocks.{begins_by}
use Rattle.doc_index_tables.proofs.blocks.begun_by.Given as goal

-- the block before the lower place begins by the number, and the one at the higher doesn't
abbrev pub invariant-halves : goal.invariant-halves
invariant-halves l = record {
  order : l.low ≤ l.high;
  within : l.high ≤ length l.blocks;
  before : 0 < l.low → HoldsAt (λ block. begins_by l.number (map.entries block) ≡ true) l.blocks (l.low - 1);
  behind : l.high < length l.blocks → HoldsAt (λ block. begins_by l.number (map.entries block) ≡ false) l.blocks l.high;
}

abbrev pub decreases-halves : goal.decreases-halves
decreases-halves l = l.high - l.low
