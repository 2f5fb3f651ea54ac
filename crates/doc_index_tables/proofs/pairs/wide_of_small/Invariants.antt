use Rattle.std.proofs.Common.{◌≡◌, take}
use Rattle.doc_index_tables.proofs.pairs.wide_of_small.Given as goal

-- the pairs so far
abbrev pub invariant-loop-first : goal.invariant-loop-first
invariant-loop-first l = l.wide.items ≡ take l.first-index l.pairs.items
