use Rattle.std.proofs.Common.{◌≡◌, take}
use Rattle.std.specs.List.{flat_map}
use Rattle.doc_links_pages.specs.Links.{broken_from}
use Rattle.doc_links_seen.specs.Memos.{IsMemo}
use Rattle.doc_links_seen.specs.SeenPages.{seen_pages}
use Rattle.doc_links_seen.specs.SeenSteps.{IsInOrder}
use Rattle.doc_links_seen.proofs.report.broken_in.Given as goal

-- the pages so far
abbrev pub invariant-loop-page : goal.invariant-loop-page
invariant-loop-page g l =
    IsMemo (g.S.Sight.goals l.sight) (seen_pages l.pages) l.memo
    × (IsInOrder (seen_pages l.pages)
    → l.all.items
    ≡ flat_map (λ page. broken_from (g.S.Sight.goals l.sight) (seen_pages l.pages) page.path.now 1 page.known.now.links)
    (take l.page-index l.pages))
