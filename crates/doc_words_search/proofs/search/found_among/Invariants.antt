use Rattle.std.proofs.Common.{◌≡◌, take}
use Rattle.std.specs.Prelude.{map as mapped}
use Rattle.std.specs.List.{flat_map}
use Rattle.doc_words_search.specs.SearchSteps.{hit_at, hit_of}
use Rattle.doc_words_search.proofs.search.found_among.Given as goal

-- the hits so far
abbrev pub invariant-loop-slot : goal.invariant-loop-slot
invariant-loop-slot l = mapped hit_of l.found.items ≡ flat_map (hit_at l.pages l.words) (take l.slot-index l.seen)
