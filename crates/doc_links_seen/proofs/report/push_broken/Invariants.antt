use Rattle.std.proofs.Common.{◌≡◌, ◌++◌, suc, drop}
use Rattle.doc_links_pages.specs.Links.{broken_from}
use Rattle.doc_links_seen.specs.Memos.{IsMemo}
use Rattle.doc_links_seen.specs.SeenPages.{seen_pages}
use Rattle.doc_links_seen.specs.SeenSteps.{IsInOrder}
use Rattle.doc_links_seen.proofs.report.push_broken.Given as goal

-- what is left of the links is still to be looked at
abbrev pub invariant-loop-index : goal.invariant-loop-index
invariant-loop-index g l =
    IsMemo (g.S.Sight.goals l.sight) (seen_pages l.pages) l.memo
    × (IsInOrder (seen_pages l.pages)
    → l.fn.all.items ++ broken_from (g.S.Sight.goals l.sight) (seen_pages l.pages) l.page.path.now 1 l.page.known.now.links
    ≡ l.all.items
    ++ broken_from (g.S.Sight.goals l.sight) (seen_pages l.pages) l.page.path.now (suc l.index) (drop l.index l.page.known.now.links))
