use Rattle.std.proofs.Common.{◌≡◌, ◌++◌, ◌-◌, ◌≤◌, drop, length}
use Rattle.std.specs.FinMap as map
use Rattle.doc_index_tables.specs.Maps.{shown}
use Rattle.doc_words_search.specs.Words.{counts_of}
use Rattle.doc_words_search.proofs.TallySteps.{Rising}
use Rattle.doc_words_search.proofs.tally.tallied.Given as goal

-- the entries of what is left are still to come
abbrev pub invariant-words : goal.invariant-words
invariant-words l = record {
  within : l.at ≤ length l.keys;
  up : Rising (drop l.at l.keys);
  left : map.entries (counts_of l.keys) ≡ shown l.entries.items ++ map.entries (counts_of (drop l.at l.keys));
}

abbrev pub decreases-words : goal.decreases-words
decreases-words l = length l.keys - l.at
