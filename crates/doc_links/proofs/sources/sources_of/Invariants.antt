use Rattle.std.proofs.Common.{◌≡◌, take}
use Rattle.std.specs.Prelude.{count_by}
use Rattle.std.specs.List.{flat_map}
use Rattle.doc_links.specs.IndexSteps.{goes_to, source_of}
use Rattle.doc_links.proofs.sources.sources_of.Given as goal

-- the pages so far
abbrev pub invariant-loop-page : goal.invariant-loop-page
invariant-loop-page g l =
    l.all.items
    ≡ flat_map (λ page. source_of page.path.now (count_by (goes_to (g.S.Sight.goals l.sight) l.target) page.known.now.links))
    (take l.page-index l.pages)
