use Rattle.std.proofs.Common.{◌≡◌, ℕ, List, take}
use Rattle.doc_index.specs.Held.{held}
use Rattle.doc_links_pages.specs.declared.answers.Broken.{Broken}
use Rattle.doc_links_seen.specs.Memos.{IsMemo}
use Rattle.doc_links_seen.specs.Numbered.{broken_of}
use Rattle.doc_links_seen.specs.SeenPages.{seen_pages}
use Rattle.doc_links_seen.specs.SeenSteps.{IsInOrder, pages_at}
use Rattle.doc_links_seen.specs.Tellers.{AreToldOf}
use Rattle.doc_links_seen.proofs.report.broken_told.Given as goal

-- the slots so far
abbrev pub invariant-loop-slot : goal.invariant-loop-slot
invariant-loop-slot g l =
    IsMemo (g.S.Sight.goals l.sight) (seen_pages l.pages.items) l.memo
    × ((behind : List ℕ → List Broken) → AreToldOf (g.T.Teller.told l.teller) behind (held l.index) → IsInOrder (seen_pages l.pages.items)
    → l.all.items
    ≡ broken_of behind (g.S.Sight.goals l.sight) (seen_pages l.pages.items) (pages_at l.index (take l.slot-index l.slots)))
