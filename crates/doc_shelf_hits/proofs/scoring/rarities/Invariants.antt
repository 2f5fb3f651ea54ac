use Rattle.std.proofs.Common.{◌≡◌, List, ℕ, take}
use Rattle.std.specs.Prelude.{map as mapped}
use Rattle.doc_page_parts.specs.declared.rendered.Rendered.{Rendered}
use Rattle.doc_people.specs.Hits.{rarity}
use Rattle.doc_shelf_hits.specs.Candidates.{AreKnown}
use Rattle.doc_shelf_hits.proofs.scoring.rarities.Given as goal

-- the terms so far
abbrev pub invariant-loop-at : goal.invariant-loop-at
invariant-loop-at l =
    (pages : List (List ℕ × Rendered)) → AreKnown l.terms pages l.candidates
    → l.rarities.items ≡ mapped (rarity pages) (take l.at l.terms)
