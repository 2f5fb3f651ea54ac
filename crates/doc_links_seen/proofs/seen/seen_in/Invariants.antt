use Rattle.std.proofs.Common.{◌≡◌, take}
use Rattle.std.specs.List.{flat_map}
use Rattle.doc_index.specs.Held.{slot_at}
use Rattle.doc_page_parts.specs.Sights.{seen}
use Rattle.doc_links_seen.specs.SeenSteps.{page_in}
use Rattle.doc_links_seen.specs.SeenPages.{seen_pages}
use Rattle.doc_links_seen.proofs.seen.seen_in.Given as goal

-- the slots so far
abbrev pub invariant-loop-slot : goal.invariant-loop-slot
invariant-loop-slot g l =
    seen_pages l.all.items
    ≡ flat_map (λ slot. seen (g.S.Sight.goals l.sight) (page_in (slot_at l.pages slot))) (take l.slot-index l.slots)
