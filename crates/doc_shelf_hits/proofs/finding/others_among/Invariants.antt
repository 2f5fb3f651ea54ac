use Rattle.std.proofs.Common.{◌≡◌, take}
use Rattle.std.specs.Prelude.{map as mapped}
use Rattle.std.specs.List.{flat_map}
use Rattle.doc_words_search.specs.SearchSteps.{hit_of}
use Rattle.doc_shelf_hits.specs.Candidates.{hit_if, is_other, known_of}
use Rattle.doc_shelf_hits.proofs.finding.others_among.Given as goal

-- the hits so far
abbrev pub invariant-loop-candidate : goal.invariant-loop-candidate
invariant-loop-candidate l =
    mapped hit_of l.found.items
    ≡ flat_map (λ candidate. hit_if l.rarities (is_other (known_of candidate)) (known_of candidate)) (take l.candidate-index l.candidates)
